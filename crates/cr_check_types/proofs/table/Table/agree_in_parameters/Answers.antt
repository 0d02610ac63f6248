use Rattle.std.proofs.Common.{◌∙◌, sym, slice_index}
use Rattle.cr_check_types.specs.Types.{type_at}
use Rattle.cr_check_types.specs.Relations.{are_compatible, bare}
use Rattle.cr_check_types.proofs.Itself.{one_more}
use Rattle.cr_check_types.proofs.table.Table.agree_in_parameters.Goals as goal

pub loop-at-preserved : goal.loop-at-preserved
loop-at-preserved c =
    one_more (λ k. are_compatible (bare (type_at c.args.self.now (slice_index c.args.left.now k))) (bare (type_at c.args.self.now (slice_index c.args.right.now k))))
    c.loop-at.at c.loop-at.invariant (sym c.are_compatible_bare.ensures ∙ c.if-not-are_compatible_bare.false)

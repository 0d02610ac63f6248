use Rattle.std.proofs.Common.{◌∙◌}
use Rattle.cr_check_types.specs.Types.{type_at}
use Rattle.cr_typed_columns.proofs.Copies.{level_more}
use Rattle.cr_typed_columns.proofs.copying.levels_in.Goals as goal

pub loop-level-preserved : goal.loop-level-preserved
loop-level-preserved c =
    rw c.in_ok-push-in-Above.ensures.items (level_more c.loop-level.list.items c.in-Above.level _ _ _ c.loop-level.invariant
    (c.shape_at.ensures.is ∙ c.in-Above.ensures.is (type_at c.args.from.now)))

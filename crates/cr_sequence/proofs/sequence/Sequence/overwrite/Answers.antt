use Rattle.std.proofs.Common.{length, ap, ◌∙◌, arith}
use Rattle.cr_sequence.specs.Written.{overwritten}
use Rattle.cr_sequence.proofs.sequence.Sequence.overwrite.Goals as goal

pub set_all-requires-clause-within : goal.set_all-requires-clause-within
set_all-requires-clause-within g c =
    let size = ap length (c.overwrite_plain.ensures.same c.if-not-overwrite_plain.true) in
    omega (arith, c.requires)

pub returns-then-not-overwrite_plain : goal.returns-then-not-overwrite_plain
returns-then-not-overwrite_plain g c =
    c.set_all.ensures ∙ ap (λ xs. overwritten xs c.args.at c.args.items.now) (c.overwrite_plain.ensures.same c.if-not-overwrite_plain.true)

pub returns-else-not-overwrite_plain : goal.returns-else-not-overwrite_plain
returns-else-not-overwrite_plain g c = c.overwrite_plain.ensures.done c.if-not-overwrite_plain.false

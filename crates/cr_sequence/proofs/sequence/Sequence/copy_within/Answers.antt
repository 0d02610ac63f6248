use Rattle.std.proofs.Common.{length, take, drop, ap, ◌∙◌, arith}
use Rattle.cr_sequence.specs.Written.{overwritten}
use Rattle.cr_sequence.proofs.sequence.Sequence.copy_within.Goals as goal

pub copy_each-requires-clause-from : goal.copy_each-requires-clause-from
copy_each-requires-clause-from g c =
    let size = ap length (c.copy_plain.ensures.same c.if-not-copy_plain.true) in
    omega (arith, c.requires.from)

pub copy_each-requires-clause-to : goal.copy_each-requires-clause-to
copy_each-requires-clause-to g c =
    let size = ap length (c.copy_plain.ensures.same c.if-not-copy_plain.true) in
    omega (arith, c.requires.to)

pub returns-then-not-copy_plain : goal.returns-then-not-copy_plain
returns-then-not-copy_plain g c =
    c.copy_each.ensures
    ∙ ap (λ xs. overwritten xs c.args.to (take c.args.count (drop c.args.from xs))) (c.copy_plain.ensures.same c.if-not-copy_plain.true)

pub returns-else-not-copy_plain : goal.returns-else-not-copy_plain
returns-else-not-copy_plain g c = c.copy_plain.ensures.done c.if-not-copy_plain.false

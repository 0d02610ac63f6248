use Rattle.std.proofs.Common.{length, ap, ◌∙◌, arith}
use Rattle.cr_sequence.specs.Stretches.{filled}
use Rattle.cr_sequence.proofs.sequence.Sequence.fill.Goals as goal

pub set_each-requires-clause-within : goal.set_each-requires-clause-within
set_each-requires-clause-within g c =
    let size = ap length (c.fill_whole.ensures.same c.if-not-fill_whole.true) in
    omega (arith, c.requires)

pub returns-then-not-fill_whole : goal.returns-then-not-fill_whole
returns-then-not-fill_whole g c =
    c.set_each.ensures ∙ ap (λ xs. filled xs c.args.from c.args.count c.args.value) (c.fill_whole.ensures.same c.if-not-fill_whole.true)

pub returns-else-not-fill_whole : goal.returns-else-not-fill_whole
returns-else-not-fill_whole g c = c.fill_whole.ensures.done c.if-not-fill_whole.false

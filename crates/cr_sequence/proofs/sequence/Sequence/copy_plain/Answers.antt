use Rattle.std.proofs.Common.{length, take, drop, ap, ◌∙◌, arith}
use Rattle.cr_sequence.specs.Written.{overwritten}
use Rattle.cr_sequence.specs.Stretches.{all_items}
use Rattle.cr_sequence.proofs.Writing.{flat_copied}
use Rattle.cr_sequence.proofs.sequence.Sequence.copy_plain.Goals as goal

pub copy_over-requires-clause-from : goal.copy_over-requires-clause-from
copy_over-requires-clause-from g c = (c.are_plain.ensures c.if-not-are_plain.false).0

pub copy_over-requires-clause-to : goal.copy_over-requires-clause-to
copy_over-requires-clause-to g c = (c.are_plain.ensures c.if-not-are_plain.false).1

pub invariant_of-self : goal.invariant_of-self
invariant_of-self g c =
    let i = c.self.inside in
    let plain = c.are_plain.ensures c.if-not-are_plain.false in
    let done = flat_copied i.count i.flat.items i.parts.items c.args.from c.args.to c.args.count c.self.invariant plain.0 plain.1 in
    rw c.copy_over.ensures done.counted

pub returns-clause-few_from : goal.returns-clause-few_from
returns-clause-few_from g c =
    let counted = c.self.invariant.counted in
    let few = c.self.invariant.few in
    let view = ap length c.self.view_is in
    omega (arith, c.requires.from)

pub returns-clause-few_to : goal.returns-clause-few_to
returns-clause-few_to g c =
    let counted = c.self.invariant.counted in
    let few = c.self.invariant.few in
    let view = ap length c.self.view_is in
    omega (arith, c.requires.to)

pub returns-then-not-are_plain-clause-few_from : goal.returns-then-not-are_plain-clause-few_from
returns-then-not-are_plain-clause-few_from g c =
    let counted = c.self.invariant.counted in
    let few = c.self.invariant.few in
    let view = ap length c.self.view_is in
    omega (arith, c.requires.from)

pub returns-then-not-are_plain-clause-few_to : goal.returns-then-not-are_plain-clause-few_to
returns-then-not-are_plain-clause-few_to g c =
    let counted = c.self.invariant.counted in
    let few = c.self.invariant.few in
    let view = ap length c.self.view_is in
    omega (arith, c.requires.to)

pub returns-clause-done : goal.returns-clause-done
returns-clause-done g c = λ e.
    let i = c.self.inside in
    let plain = c.are_plain.ensures c.if-not-are_plain.false in
    let done = flat_copied i.count i.flat.items i.parts.items c.args.from c.args.to c.args.count c.self.invariant plain.0 plain.1 in
    ap (λ xs. all_items xs i.parts.items) c.copy_over.ensures ∙ done.shown
    ∙ ap (λ xs. overwritten xs c.args.to (take c.args.count (drop c.args.from xs))) c.self.view_is

use Rattle.std.proofs.Common.{length, ap, ◌∙◌, arith}
use Rattle.cr_sequence.specs.Written.{overwritten}
use Rattle.cr_sequence.specs.Stretches.{all_items}
use Rattle.cr_sequence.proofs.Writing.{flat_overwritten}
use Rattle.cr_sequence.proofs.sequence.Sequence.overwrite_plain.Goals as goal

pub write_over-requires : goal.write_over-requires
write_over-requires g c = c.is_plain.ensures c.if-not-is_plain.false

pub invariant_of-self : goal.invariant_of-self
invariant_of-self g c =
    let i = c.self.inside in
    let done = flat_overwritten i.count i.flat.items i.parts.items c.args.at c.args.items.now c.self.invariant (c.is_plain.ensures c.if-not-is_plain.false) in
    rw c.write_over.ensures done.counted

pub returns-clause-few : goal.returns-clause-few
returns-clause-few g c =
    let counted = c.self.invariant.counted in
    let few = c.self.invariant.few in
    let view = ap length c.self.view_is in
    omega (arith, c.requires)

pub returns-then-not-is_plain-clause-few : goal.returns-then-not-is_plain-clause-few
returns-then-not-is_plain-clause-few g c =
    let counted = c.self.invariant.counted in
    let few = c.self.invariant.few in
    let view = ap length c.self.view_is in
    omega (arith, c.requires)

pub returns-clause-done : goal.returns-clause-done
returns-clause-done g c = λ e.
    let i = c.self.inside in
    let done = flat_overwritten i.count i.flat.items i.parts.items c.args.at c.args.items.now c.self.invariant (c.is_plain.ensures c.if-not-is_plain.false) in
    ap (λ xs. all_items xs i.parts.items) c.write_over.ensures ∙ done.shown ∙ ap (λ xs. overwritten xs c.args.at c.args.items.now) c.self.view_is

use Rattle.std.proofs.Common.{length, ap, ◌∙◌, arith}
use Rattle.cr_sequence.specs.Stretches.{all_items, filled}
use Rattle.cr_sequence.proofs.Parts.{whole_counted}
use Rattle.cr_sequence.proofs.sequence.Sequence.fill_whole.Goals as goal

pub invariant_of-self : goal.invariant_of-self
invariant_of-self g c =
    let i = c.self.inside in
    whole_counted c.fill_stretch.result i.count i.flat.items i.parts.items c.fill_stretch.new.parts.items _ c.self.invariant c.fill_stretch.ensures.done c.fill_stretch.ensures.same

pub returns-clause-few : goal.returns-clause-few
returns-clause-few g c =
    let counted = c.self.invariant.counted in
    let few = c.self.invariant.few in
    let view = ap length c.self.view_is in
    omega (arith, c.requires)

pub returns-clause-done : goal.returns-clause-done
returns-clause-done g c = λ e.
    (c.fill_stretch.ensures.done e).shown ∙ ap (λ xs. filled xs c.args.from c.args.count c.args.value) c.self.view_is

pub returns-clause-same : goal.returns-clause-same
returns-clause-same g c = λ e. ap (λ ps. all_items c.self.inside.flat.items ps) (c.fill_stretch.ensures.same e) ∙ c.self.view_is

pub returns-then-from-plain-clause-few : goal.returns-then-from-plain-clause-few
returns-then-from-plain-clause-few g c =
    let counted = c.self.invariant.counted in
    let few = c.self.invariant.few in
    let view = ap length c.self.view_is in
    omega (arith, c.requires)

pub returns-then-from-self-clause-few : goal.returns-then-from-self-clause-few
returns-then-from-self-clause-few g c =
    let counted = c.self.invariant.counted in
    let few = c.self.invariant.few in
    let view = ap length c.self.view_is in
    omega (arith, c.requires)

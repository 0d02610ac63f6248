use Rattle.std.proofs.Common.{ap, ◌∙◌}
use Rattle.cr_sequence.specs.Kept.{repeated}
use Rattle.cr_sequence.specs.Stretches.{all_items, replaced}
use Rattle.cr_sequence.proofs.Parts.{whole_counted}
use Rattle.cr_sequence.proofs.sequence.Sequence.refill.Goals as goal

pub invariant_of-self : goal.invariant_of-self
invariant_of-self g c =
    let i = c.self.inside in
    whole_counted c.refill_stretch.result i.count i.flat.items i.parts.items c.refill_stretch.new.parts.items _ c.self.invariant c.refill_stretch.ensures.done c.refill_stretch.ensures.same

pub returns-clause-done : goal.returns-clause-done
returns-clause-done g c = λ e.
    (c.refill_stretch.ensures.done e).shown ∙ ap (λ xs. replaced xs c.args.from (repeated c.args.times c.args.pattern.items)) c.self.view_is

pub returns-clause-same : goal.returns-clause-same
returns-clause-same g c = λ e. ap (λ ps. all_items c.self.inside.flat.items ps) (c.refill_stretch.ensures.same e) ∙ c.self.view_is

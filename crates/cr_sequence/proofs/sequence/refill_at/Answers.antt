use Rattle.std.proofs.Common.{◌∙◌}
use Rattle.cr_sequence.specs.Kept.{repeated}
use Rattle.cr_sequence.proofs.Parts.{changed_by, own_part, refilled}
use Rattle.cr_sequence.proofs.sequence.refill_at.Goals as goal

pub refill_in-requires-clause-whole : goal.refill_in-requires-clause-whole
refill_in-requires-clause-whole g c =
    c.requires.whole c.index_mut.result.now (own_part c.args.parts.now.items c.args.number c.index_mut.result.now c.requires.number c.index_mut.ensures.value)

pub returns : goal.returns
returns g c = λ part is.
    changed_by c.args.parts.now.items c.args.number part c.index_mut.result.now c.refill_in.new.part (refilled (repeated c.args.times c.args.pattern.items))
    c.requires.number c.index_mut.ensures.value is c.refill_in.ensures.start c.refill_in.ensures.items

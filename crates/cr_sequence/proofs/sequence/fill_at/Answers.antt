use Rattle.cr_sequence.proofs.Parts.{changed_by, emptied}
use Rattle.cr_sequence.proofs.sequence.fill_at.Goals as goal

pub returns : goal.returns
returns g c = λ part is.
    changed_by c.args.parts.now.items c.args.number part c.index_mut.result.now c.fill_in.new.part (emptied c.args.value)
    c.requires c.index_mut.ensures.value is c.fill_in.ensures.start c.fill_in.ensures.items

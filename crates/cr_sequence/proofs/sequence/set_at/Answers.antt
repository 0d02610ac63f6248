use Rattle.std.proofs.Common.{set}
use Rattle.cr_sequence.specs.Stretches.{items_in}
use Rattle.cr_sequence.proofs.Parts.{changed_by, placed_there}
use Rattle.cr_sequence.proofs.sequence.set_at.Goals as goal

pub set_in-requires : goal.set_in-requires
set_in-requires g c = placed_there c.args.parts.now.items c.args.number c.args.place c.index_mut.result.now c.requires.number c.index_mut.ensures.value c.requires.place

pub returns : goal.returns
returns g c = λ part is.
    changed_by c.args.parts.now.items c.args.number part c.index_mut.result.now c.set_in.new.part (λ part. set (items_in part) c.args.place c.args.item)
    c.requires.number c.index_mut.ensures.value is c.set_in.ensures.start c.set_in.ensures.items

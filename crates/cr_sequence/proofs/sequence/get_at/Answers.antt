use Rattle.cr_sequence.proofs.Parts.{placed_there, same_read}
use Rattle.cr_sequence.proofs.sequence.get_at.Goals as goal

pub get_in-requires : goal.get_in-requires
get_in-requires g c = placed_there c.args.parts.now.items c.args.number c.args.place c.index.result.now c.requires.number c.index.ensures c.requires.place

pub returns : goal.returns
returns g c = λ part is.
    same_read c.args.parts.now.items c.args.number c.args.place c.index.result.now part c.get_in.result c.requires.number c.index.ensures is c.get_in.ensures

use Rattle.cr_around.proofs.Deeds.{clears}
use Rattle.cr_around.proofs.memory.MemPlacePlace.clear.Goals as goal

pub returns-in-Ok-clause-cleared : goal.returns-in-Ok-clause-cleared
returns-in-Ok-clause-cleared c = clears c.args.folder.now c.in-Ok.folder c.args.self.now c.note.new.self c.note.result c.in-Ok.ensures.ok c.note.ensures.told

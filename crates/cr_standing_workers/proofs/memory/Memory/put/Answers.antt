use Rattle.cr_standing_workers.proofs.Memories.{still_remembered}
use Rattle.cr_standing_workers.proofs.memory.Memory.put.Goals as goal

pub invariant_of-self : goal.invariant_of-self
invariant_of-self g c =
    still_remembered g.S.Subject.verdicts c.args.file.now c.args.verdict c.self.inside.verdicts c.put.result c.put.new.self c.requires c.self.invariant c.put.ensures.put c.put.ensures.lost

use Rattle.cr_memory.proofs.Continuing.{part-pointed}
use Rattle.cr_memory.proofs.laws.part_is_pointed.Goals as goal

pub returns : goal.returns
returns c = part-pointed

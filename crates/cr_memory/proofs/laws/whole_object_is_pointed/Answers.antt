use Rattle.cr_memory.proofs.Continuing.{whole-pointed}
use Rattle.cr_memory.proofs.laws.whole_object_is_pointed.Goals as goal

pub returns : goal.returns
returns c = whole-pointed

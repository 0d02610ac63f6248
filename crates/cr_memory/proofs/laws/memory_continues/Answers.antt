use Rattle.cr_memory.proofs.Continuing.{continues-refl}
use Rattle.cr_memory.proofs.laws.memory_continues.Goals as goal

pub returns : goal.returns
returns c = continues-refl

use Rattle.cr_memory.proofs.Continuing.{pointers-last}
use Rattle.cr_memory.proofs.laws.pointers_last.Goals as goal

pub returns : goal.returns
returns c = λ old new c. record { kept = λ p h. pointers-last old new p c h }

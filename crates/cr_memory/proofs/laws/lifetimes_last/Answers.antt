use Rattle.cr_memory.proofs.Continuing.{lifetimes-last}
use Rattle.cr_memory.proofs.laws.lifetimes_last.Goals as goal

pub returns : goal.returns
returns c = lifetimes-last

use Rattle.cr_memory.proofs.Continuing.{continues-onward}
use Rattle.cr_memory.proofs.laws.continues_onward.Goals as goal

pub returns : goal.returns
returns c = continues-onward

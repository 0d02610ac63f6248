use Rattle.cr_memory.proofs.Continuing.{continues-past_new}
use Rattle.cr_memory.proofs.laws.continues_past_new.Goals as goal

pub returns : goal.returns
returns c = continues-past_new

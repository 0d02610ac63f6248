use Rattle.cr_meaning.proofs.Runs.{one_meaning}
use Rattle.cr_meaning.proofs.laws.one_meaning.Goals as goal

pub returns : goal.returns
returns c = one_meaning

use Rattle.cr_core.proofs.Few.{bound}
use Rattle.cr_core.proofs.laws.the_bound_follows.Goals as goal

pub returns : goal.returns
returns c = bound

use Rattle.cr_core.proofs.Totals.{ordered}
use Rattle.cr_core.proofs.laws.ordered_commit.Goals as goal

pub returns : goal.returns
returns c = ordered

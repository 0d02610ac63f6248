use Rattle.cr_meaning.proofs.Quiet.{quiet_nodes_read}
use Rattle.cr_meaning.proofs.laws.quiet_nodes_read.Goals as goal

pub returns : goal.returns
returns c = quiet_nodes_read

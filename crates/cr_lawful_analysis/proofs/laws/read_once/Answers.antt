use Rattle.cr_lawful_analysis.proofs.Same.{one_read}
use Rattle.cr_lawful_analysis.proofs.laws.read_once.Goals as goal

pub returns : goal.returns
returns c = one_read

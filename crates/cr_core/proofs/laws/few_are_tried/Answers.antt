use Rattle.cr_core.proofs.Few.{few}
use Rattle.cr_core.proofs.laws.few_are_tried.Goals as goal

pub returns : goal.returns
returns c = few

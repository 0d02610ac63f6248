use Rattle.cr_check_initialisers.proofs.Plans.{has_plan}
use Rattle.cr_check_initialisers.proofs.laws.has_plan.Goals as goal

pub returns : goal.returns
returns c = has_plan

use Rattle.cr_check_initialisers.proofs.OnePlan.{one_plan}
use Rattle.cr_check_initialisers.proofs.laws.one_plan.Goals as goal

pub returns : goal.returns
returns c = one_plan

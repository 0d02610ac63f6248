use Rattle.cr_check_initialisers.proofs.Inside.{plan_stays_inside}
use Rattle.cr_check_initialisers.proofs.laws.plans_stay_inside.Goals as goal

pub returns : goal.returns
returns c = plan_stays_inside

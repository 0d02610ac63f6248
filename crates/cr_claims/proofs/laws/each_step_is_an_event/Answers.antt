use Rattle.cr_claims.proofs.TheCore.{steps}
use Rattle.cr_claims.proofs.laws.each_step_is_an_event.Goals as goal

pub returns : goal.returns
returns c = steps

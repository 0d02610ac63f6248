use Rattle.cr_check_surroundings.proofs.One.{one_surroundings}
use Rattle.cr_check_surroundings.proofs.laws.one_surroundings.Goals as goal

pub returns : goal.returns
returns c = one_surroundings

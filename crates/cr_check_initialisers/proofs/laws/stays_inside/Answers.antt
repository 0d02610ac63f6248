use Rattle.cr_check_initialisers.proofs.Inside.{stays_inside}
use Rattle.cr_check_initialisers.proofs.laws.stays_inside.Goals as goal

pub returns : goal.returns
returns c = stays_inside

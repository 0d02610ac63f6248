use Rattle.cr_check_initialised.proofs.Fillings.{one_filling}
use Rattle.cr_check_initialised.proofs.laws.one_filling.Goals as goal

pub returns : goal.returns
returns c = one_filling

use Rattle.cr_main.proofs.OneTask.{one_own}
use Rattle.cr_main.proofs.laws.a_name_has_one_own_name.Goals as goal

pub returns : goal.returns
returns c = one_own

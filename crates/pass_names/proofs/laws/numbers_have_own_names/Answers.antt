use Rattle.pass_names.proofs.Own.{own_names}
use Rattle.pass_names.proofs.laws.numbers_have_own_names.Goals as goal

pub returns : goal.returns
returns c = own_names

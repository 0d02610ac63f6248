use Rattle.pass_names.proofs.Taken.{a_free_name}
use Rattle.pass_names.proofs.laws.a_name_is_free.Goals as goal

pub returns : goal.returns
returns c = a_free_name

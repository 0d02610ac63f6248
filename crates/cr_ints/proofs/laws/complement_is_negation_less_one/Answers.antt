use Rattle.cr_ints.proofs.Complements.{complement}
use Rattle.cr_ints.proofs.laws.complement_is_negation_less_one.Goals as goal

pub returns : goal.returns
returns c = complement

use Rattle.cr_ints.proofs.Congruence.{convert_of-represents}
use Rattle.cr_ints.proofs.laws.conversion_is_representable.Goals as goal

pub returns : goal.returns
returns c = convert_of-represents

use Rattle.cr_ints.proofs.Congruence.{convert_of-kept}
use Rattle.cr_ints.proofs.laws.conversion_keeps_range.Goals as goal

pub returns : goal.returns
returns c = convert_of-kept

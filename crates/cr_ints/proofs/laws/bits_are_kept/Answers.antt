use Rattle.cr_ints.proofs.Complements.{bits-kept}
use Rattle.cr_ints.proofs.laws.bits_are_kept.Goals as goal

pub returns : goal.returns
returns c = bits-kept

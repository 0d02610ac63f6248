use Rattle.cr_ints.proofs.Congruence.{wrapped-congruent, convert_of-wraps}
use Rattle.cr_ints.proofs.laws.conversion_is_congruent.Goals as goal

pub returns : goal.returns
returns c = λ value kind other. rw (convert_of-wraps value kind other) (wrapped-congruent kind value)

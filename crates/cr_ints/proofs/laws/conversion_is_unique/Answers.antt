use Rattle.cr_ints.proofs.Congruence.{congruent-unique, wrapped-congruent, convert_of-wraps}
use Rattle.cr_ints.proofs.Ranges.{wrapped-represents}
use Rattle.cr_ints.proofs.laws.conversion_is_unique.Goals as goal

pub returns : goal.returns
returns c = λ value result kind other h f.
    rw (convert_of-wraps value kind other) (congruent-unique kind result _ value h (wrapped-represents kind value) f (wrapped-congruent kind value))

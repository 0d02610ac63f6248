use Rattle.cr_meaning_types.proofs.FittingLemmas.Literals.{literals}
use Rattle.cr_meaning_types.proofs.fitting.literals_are_short.Goals as goal

pub returns : goal.returns
returns c = literals

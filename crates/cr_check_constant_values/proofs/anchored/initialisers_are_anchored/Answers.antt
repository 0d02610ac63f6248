use Rattle.cr_check_constant_values.proofs.AnchoredLemmas.Filling.{initialisers}
use Rattle.cr_check_constant_values.proofs.anchored.initialisers_are_anchored.Goals as goal

pub returns : goal.returns
returns c = initialisers

use Rattle.cr_check_signatures.proofs.ParametersLemmas.Listed.{listed}
use Rattle.cr_check_signatures.proofs.parameters.parameters_are_listed.Goals as goal

pub returns : goal.returns
returns c = listed

use Rattle.cr_meaning_objects.proofs.ParametersLemmas.Objects.{objects}
use Rattle.cr_meaning_objects.proofs.parameters.parameters_are_objects.Goals as goal

pub returns : goal.returns
returns c = objects

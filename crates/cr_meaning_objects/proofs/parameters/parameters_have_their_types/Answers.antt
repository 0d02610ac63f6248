use Rattle.cr_meaning_objects.proofs.ParametersLemmas.Parameters.{own_types}
use Rattle.cr_meaning_objects.proofs.parameters.parameters_have_their_types.Goals as goal

pub returns : goal.returns
returns c = own_types

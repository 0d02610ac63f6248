use Rattle.cr_scopes_visibility.proofs.ParametersLemmas.Walks.{inside_alone}
use Rattle.cr_scopes_visibility.proofs.parameters.parameters_stay_inside.Goals as goal

pub returns : goal.returns
returns c = inside_alone

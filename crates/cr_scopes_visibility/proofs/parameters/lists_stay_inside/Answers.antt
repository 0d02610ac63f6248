use Rattle.cr_scopes_visibility.proofs.ParametersLemmas.Walks.{list_alone}
use Rattle.cr_scopes_visibility.proofs.parameters.lists_stay_inside.Goals as goal

pub returns : goal.returns
returns c = list_alone

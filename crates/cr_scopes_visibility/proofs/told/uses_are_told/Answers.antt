use Rattle.cr_scopes_visibility.proofs.ToldLemmas.Walks.{told}
use Rattle.cr_scopes_visibility.proofs.told.uses_are_told.Goals as goal

pub returns : goal.returns
returns c = told

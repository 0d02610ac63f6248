use Rattle.cr_scopes_linkage.proofs.FunctionsLemmas.Told.{told}
use Rattle.cr_scopes_linkage.proofs.functions.definitions_are_told.Goals as goal

pub returns : goal.returns
returns c = told

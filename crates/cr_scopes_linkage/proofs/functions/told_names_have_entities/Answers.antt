use Rattle.cr_scopes_linkage.proofs.FunctionsLemmas.Shared.{has_entity}
use Rattle.cr_scopes_linkage.proofs.functions.told_names_have_entities.Goals as goal

pub returns : goal.returns
returns c = has_entity

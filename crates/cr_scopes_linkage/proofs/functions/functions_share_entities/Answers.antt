use Rattle.cr_scopes_linkage.proofs.FunctionsLemmas.Shared.{share}
use Rattle.cr_scopes_linkage.proofs.functions.functions_share_entities.Goals as goal

pub returns : goal.returns
returns c = share

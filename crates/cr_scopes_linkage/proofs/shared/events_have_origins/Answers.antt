use Rattle.cr_scopes_linkage.proofs.SharedLemmas.Told.{all_told}
use Rattle.cr_scopes_linkage.proofs.shared.events_have_origins.Goals as goal

pub returns : goal.returns
returns c = all_told

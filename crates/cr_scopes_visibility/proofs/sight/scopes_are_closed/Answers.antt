use Rattle.cr_scopes_visibility.proofs.SightLemmas.Walks.{closed}
use Rattle.cr_scopes_visibility.proofs.sight.scopes_are_closed.Goals as goal

pub returns : goal.returns
returns c = closed

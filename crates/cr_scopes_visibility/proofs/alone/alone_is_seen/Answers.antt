use Rattle.cr_scopes_visibility.proofs.AloneLemmas.Sight.{seen_is}
use Rattle.cr_scopes_visibility.proofs.alone.alone_is_seen.Goals as goal

pub returns : goal.returns
returns c = seen_is

use Rattle.cr_scopes_visibility.proofs.AloneLemmas.First.{first_is}
use Rattle.cr_scopes_visibility.proofs.alone.alone_is_first.Goals as goal

pub returns : goal.returns
returns c = first_is

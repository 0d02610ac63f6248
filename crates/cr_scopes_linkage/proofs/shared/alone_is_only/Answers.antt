use Rattle.cr_scopes_linkage.proofs.SharedLemmas.Shared.{only_alone}
use Rattle.cr_scopes_linkage.proofs.shared.alone_is_only.Goals as goal

pub returns : goal.returns
returns c = only_alone

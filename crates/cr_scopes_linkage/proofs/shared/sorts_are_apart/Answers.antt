use Rattle.cr_scopes_linkage.proofs.SharedLemmas.Shared.{sorts_apart}
use Rattle.cr_scopes_linkage.proofs.shared.sorts_are_apart.Goals as goal

pub returns : goal.returns
returns c = sorts_apart

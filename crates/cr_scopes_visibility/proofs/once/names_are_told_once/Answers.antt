use Rattle.cr_scopes_visibility.proofs.OnceLemmas.Counting.{told_once}
use Rattle.cr_scopes_visibility.proofs.once.names_are_told_once.Goals as goal

pub returns : goal.returns
returns c = told_once

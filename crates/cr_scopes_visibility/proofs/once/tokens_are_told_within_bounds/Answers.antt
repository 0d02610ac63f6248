use Rattle.cr_scopes_visibility.proofs.OnceLemmas.Counting.{told_within}
use Rattle.cr_scopes_visibility.proofs.once.tokens_are_told_within_bounds.Goals as goal

pub returns : goal.returns
returns c = told_within

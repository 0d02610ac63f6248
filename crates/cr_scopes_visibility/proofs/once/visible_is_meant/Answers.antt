use Rattle.cr_scopes_visibility.proofs.OnceLemmas.Meaning.{meant}
use Rattle.cr_scopes_visibility.proofs.once.visible_is_meant.Goals as goal

pub returns : goal.returns
returns c = meant

use Rattle.cr_scopes_visibility.proofs.UsesLemmas.Finding.{all_find}
use Rattle.cr_scopes_visibility.proofs.uses.uses_find_declarations.Goals as goal

pub returns : goal.returns
returns c = all_find

use Rattle.cr_meaning_references.proofs.ToldLemmas.Found.{are_found}
use Rattle.cr_meaning_references.proofs.told.names_are_found.Goals as goal

pub returns : goal.returns
returns c = are_found

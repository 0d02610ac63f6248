use Rattle.cr_meaning_references.proofs.ToldLemmas.Found.{tags_found}
use Rattle.cr_meaning_references.proofs.told.tags_are_found.Goals as goal

pub returns : goal.returns
returns c = tags_found

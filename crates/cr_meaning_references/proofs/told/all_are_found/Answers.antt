use Rattle.cr_meaning_references.proofs.ToldLemmas.Asked.{all_found}
use Rattle.cr_meaning_references.proofs.told.all_are_found.Goals as goal

pub returns : goal.returns
returns c = all_found

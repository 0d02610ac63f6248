use Rattle.cr_meaning_references.proofs.ToldLemmas.Constants.{constants}
use Rattle.cr_meaning_references.proofs.told.constants_have_values.Goals as goal

pub returns : goal.returns
returns c = constants

use Rattle.cr_meaning_types.proofs.FoundLemmas.Names.{declared}
use Rattle.cr_meaning_types.proofs.found.what_is_found_is_declared.Goals as goal

pub returns : goal.returns
returns c = declared

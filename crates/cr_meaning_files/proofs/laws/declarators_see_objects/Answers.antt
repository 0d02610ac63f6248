use Rattle.cr_meaning_files.proofs.Files.{see}
use Rattle.cr_meaning_files.proofs.laws.declarators_see_objects.Goals as goal

pub returns : goal.returns
returns c = see

use Rattle.cr_meaning_files.proofs.Files.{well_typed}
use Rattle.cr_meaning_files.proofs.laws.files_are_well_typed.Goals as goal

pub returns : goal.returns
returns c = well_typed

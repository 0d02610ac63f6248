use Rattle.cr_meaning_files.proofs.Files.{files}
use Rattle.cr_meaning_files.proofs.laws.files_have_outcomes.Goals as goal

pub returns : goal.returns
returns c = files

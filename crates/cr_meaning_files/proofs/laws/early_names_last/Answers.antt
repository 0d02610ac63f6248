use Rattle.cr_meaning_files.proofs.Files.{before_main}
use Rattle.cr_meaning_files.proofs.laws.early_names_last.Goals as goal

pub returns : goal.returns
returns c = before_main

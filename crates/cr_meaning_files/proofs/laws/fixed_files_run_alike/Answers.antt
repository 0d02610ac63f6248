use Rattle.cr_meaning_files.proofs.Files.{alike}
use Rattle.cr_meaning_files.proofs.laws.fixed_files_run_alike.Goals as goal

pub returns : goal.returns
returns c = alike

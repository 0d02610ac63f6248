use Rattle.cr_meaning_declarations.proofs.DeclaredLemmas.Runs.{files_run_alike}
use Rattle.cr_meaning_declarations.proofs.declared.files_run_alike.Goals as goal

pub returns : goal.returns
returns c = files_run_alike

use Rattle.cr_meaning_files.proofs.Files.{closes}
use Rattle.cr_meaning_files.proofs.laws.runs_are_closed.Goals as goal

pub returns : goal.returns
returns c = closes

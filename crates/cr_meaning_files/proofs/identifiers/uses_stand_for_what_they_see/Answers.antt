use Rattle.cr_meaning_files.proofs.Visible.{stand}
use Rattle.cr_meaning_files.proofs.identifiers.uses_stand_for_what_they_see.Goals as goal

pub returns : goal.returns
returns c = stand

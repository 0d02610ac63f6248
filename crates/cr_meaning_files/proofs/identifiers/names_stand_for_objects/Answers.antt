use Rattle.cr_meaning_files.proofs.Designated.{stand_for}
use Rattle.cr_meaning_files.proofs.identifiers.names_stand_for_objects.Goals as goal

pub returns : goal.returns
returns c = stand_for

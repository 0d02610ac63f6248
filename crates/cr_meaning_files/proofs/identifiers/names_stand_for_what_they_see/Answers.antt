use Rattle.cr_meaning_files.proofs.Names.{seen}
use Rattle.cr_meaning_files.proofs.identifiers.names_stand_for_what_they_see.Goals as goal

pub returns : goal.returns
returns c = seen

use Rattle.cr_meaning_files.proofs.Files.{tells}
use Rattle.cr_meaning_files.proofs.laws.nodes_are_told.Goals as goal

pub returns : goal.returns
returns c = tells

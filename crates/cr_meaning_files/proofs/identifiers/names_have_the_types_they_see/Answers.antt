use Rattle.cr_meaning_files.proofs.Types.{typed}
use Rattle.cr_meaning_files.proofs.identifiers.names_have_the_types_they_see.Goals as goal

pub returns : goal.returns
returns c = typed

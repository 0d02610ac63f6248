use Rattle.cr_meaning_files.proofs.Meant.{mean}
use Rattle.cr_meaning_files.proofs.identifiers.names_stand_for_declarations.Goals as goal

pub returns : goal.returns
returns c = mean

use Rattle.cr_meaning_files.proofs.Elements.{celled}
use Rattle.cr_meaning_files.proofs.identifiers.names_have_whole_cells.Goals as goal

pub returns : goal.returns
returns c = celled

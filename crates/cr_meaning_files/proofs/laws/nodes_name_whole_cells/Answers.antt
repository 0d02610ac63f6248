use Rattle.cr_meaning_files.proofs.Files.{nodes_cells}
use Rattle.cr_meaning_files.proofs.laws.nodes_name_whole_cells.Goals as goal

pub returns : goal.returns
returns c = nodes_cells

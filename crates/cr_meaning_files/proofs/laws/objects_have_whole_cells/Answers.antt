use Rattle.cr_meaning_files.proofs.Files.{objects_cells}
use Rattle.cr_meaning_files.proofs.laws.objects_have_whole_cells.Goals as goal

pub returns : goal.returns
returns c = objects_cells

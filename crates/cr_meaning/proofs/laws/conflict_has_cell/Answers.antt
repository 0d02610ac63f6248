use Rattle.cr_meaning.proofs.Merging.{conflict_has_cell}
use Rattle.cr_meaning.proofs.laws.conflict_has_cell.Goals as goal

pub returns : goal.returns
returns c = conflict_has_cell

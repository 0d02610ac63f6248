use Rattle.cr_check_initialisers.proofs.Cells.{laid_out}
use Rattle.cr_check_initialisers.proofs.laws.cells_are_laid_out.Goals as goal

pub returns : goal.returns
returns c = laid_out

use Rattle.cr_printer.proofs.Neighbours as neighbours
use Rattle.cr_printer.proofs.laws.prints_one_text.Goals as goal

pub returns : goal.returns
returns c = neighbours.prints_one_text

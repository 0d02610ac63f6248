use Rattle.cr_printer.proofs.Neighbours as neighbours
use Rattle.cr_printer.proofs.laws.neighbours_stay_apart.Goals as goal

pub returns : goal.returns
returns c = neighbours.neighbours_stay_apart

use Rattle.cr_printer.proofs.Neighbours as neighbours
use Rattle.cr_printer.proofs.laws.printed_is_no_longer.Goals as goal

pub returns : goal.returns
returns c = neighbours.printed_is_no_longer

use Rattle.cr_printer.proofs.Units as units
use Rattle.cr_printer.proofs.laws.printed_is_unit.Goals as goal

pub returns : goal.returns
returns c = units.is_unit

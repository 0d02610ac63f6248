use Rattle.cr_printer.proofs.Units as units
use Rattle.cr_printer.proofs.laws.printed_part_is_read.Goals as goal

pub returns : goal.returns
returns c = units.part_is_read

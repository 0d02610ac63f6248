use Rattle.cr_printer.proofs.Reading as reading
use Rattle.cr_printer.proofs.laws.printed_is_read.Goals as goal

pub returns : goal.returns
returns c = reading.printed_is_read

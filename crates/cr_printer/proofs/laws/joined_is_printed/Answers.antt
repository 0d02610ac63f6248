use Rattle.cr_printer.proofs.Spaces as spaces
use Rattle.cr_printer.proofs.laws.joined_is_printed.Goals as goal

pub returns : goal.returns
returns c = spaces.joined_is_printed

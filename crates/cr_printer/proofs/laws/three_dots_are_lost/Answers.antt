use Rattle.cr_printer.proofs.Lost as lost
use Rattle.cr_printer.proofs.laws.three_dots_are_lost.Goals as goal

pub returns : goal.returns
returns c = lost.three_dots_are_lost

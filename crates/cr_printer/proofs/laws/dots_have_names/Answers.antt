use Rattle.cr_printer.proofs.Names.{unit_named}
use Rattle.cr_printer.proofs.laws.dots_have_names.Goals as goal

pub returns : goal.returns
returns c = unit_named

use Rattle.pass_widths.proofs.Names.{printed_few}
use Rattle.pass_widths.proofs.laws.printed_are_few.Goals as goal

pub returns : goal.returns
returns c = printed_few

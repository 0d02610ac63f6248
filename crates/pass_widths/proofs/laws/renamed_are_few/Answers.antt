use Rattle.pass_widths.proofs.Names.{renamed_few}
use Rattle.pass_widths.proofs.laws.renamed_are_few.Goals as goal

pub returns : goal.returns
returns c = renamed_few

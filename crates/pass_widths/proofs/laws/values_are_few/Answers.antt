use Rattle.pass_widths.proofs.Values.{values_few}
use Rattle.pass_widths.proofs.laws.values_are_few.Goals as goal

pub returns : goal.returns
returns c = λ tokens nodes items names u. values_few tokens names u

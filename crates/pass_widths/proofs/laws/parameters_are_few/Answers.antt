use Rattle.pass_widths.proofs.Parameters.{parameters_few}
use Rattle.pass_widths.proofs.laws.parameters_are_few.Goals as goal

pub returns : goal.returns
returns c = λ file tokens nodes items names u. parameters_few file tokens names u

use Rattle.pass_widths.proofs.Output.{output_few}
use Rattle.pass_widths.proofs.laws.output_is_few.Goals as goal

pub returns : goal.returns
returns c = λ file tokens nodes items u. output_few file tokens u

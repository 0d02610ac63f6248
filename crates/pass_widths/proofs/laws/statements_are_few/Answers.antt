use Rattle.pass_widths.proofs.Statements.{statements_few}
use Rattle.pass_widths.proofs.laws.statements_are_few.Goals as goal

pub returns : goal.returns
returns c = λ file tokens nodes items u. statements_few file tokens u

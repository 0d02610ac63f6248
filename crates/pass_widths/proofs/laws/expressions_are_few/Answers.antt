use Rattle.pass_widths.proofs.Expressions.{expressions_few}
use Rattle.pass_widths.proofs.laws.expressions_are_few.Goals as goal

pub returns : goal.returns
returns c = λ tokens nodes items u. expressions_few tokens u

use Rattle.pass_widths.proofs.Nodes.{nodes_few}
use Rattle.pass_widths.proofs.laws.nodes_are_few.Goals as goal

pub returns : goal.returns
returns c = λ count nodes items u. nodes_few u

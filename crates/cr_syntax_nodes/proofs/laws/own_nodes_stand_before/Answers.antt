use Rattle.cr_syntax_nodes.proofs.Order.{own_before}
use Rattle.cr_syntax_nodes.proofs.laws.own_nodes_stand_before.Goals as goal

pub returns : goal.returns
returns c = own_before

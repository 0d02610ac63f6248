use Rattle.std.proofs.Common.{◌≡◌, take, map}
use Rattle.cr_order.specs.Orders.{only_list}
use Rattle.cr_order.proofs.lists.outer_of.Given as goal

abbrev pub invariant-loop-node : goal.invariant-loop-node
invariant-loop-node l = l.outer.items ≡ map (only_list l.nodes) (take l.node-index l.node-items)

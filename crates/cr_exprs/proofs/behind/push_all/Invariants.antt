use Rattle.std.proofs.Common.{◌≡◌, ◌++◌, take}
use Rattle.cr_exprs.specs.Behind.{nodes_behind}
use Rattle.cr_exprs.proofs.behind.push_all.Given as goal

abbrev pub invariant-loop-node : goal.invariant-loop-node
invariant-loop-node l = l.nodes ≡ l.fn.nodes ++ nodes_behind l.before (take l.node-index l.more)

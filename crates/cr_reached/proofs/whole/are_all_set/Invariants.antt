use Rattle.std.proofs.Common.{take}
use Rattle.cr_reached.specs.Own.{AreAllSet}
use Rattle.cr_reached.proofs.whole.are_all_set.Given as goal

abbrev pub invariant-loop-node : goal.invariant-loop-node
invariant-loop-node l = AreAllSet l.column (take l.node-index l.nodes) l.all

use Rattle.std.proofs.Common.{None, length}
use Rattle.cr_rows.specs.Columns.{AreOf}
use Rattle.cr_check_surroundings.specs.Previous.{before_of}
use Rattle.cr_check_surroundings.proofs.previous.previous.Given as goal

abbrev pub invariant-loop-node : goal.invariant-loop-node
invariant-loop-node l = AreOf (before_of l.nodes l.node-index) None (length l.nodes) l.column.items

use Rattle.std.proofs.Common.{◌≡◌, ◌++◌, length}
use Rattle.cr_meaning.specs.Nodes.{elements_of}
use Rattle.cr_exec_statements.proofs.initial.elements_of_run.Given as goal

abbrev pub invariant-loop-kinds_left : goal.invariant-loop-kinds_left
invariant-loop-kinds_left l = l.cells.items ++ elements_of l.kinds_left l.left ≡ elements_of l.kinds l.run

abbrev pub decreases-loop-kinds_left : goal.decreases-loop-kinds_left
decreases-loop-kinds_left l = length l.kinds_left

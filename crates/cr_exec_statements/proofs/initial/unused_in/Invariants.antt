use Rattle.std.proofs.Common.{◌≡◌, length}
use Rattle.cr_meaning.specs.Nodes.{unused_in}
use Rattle.cr_exec_statements.specs.Kept.{values_in}
use Rattle.cr_exec_statements.proofs.initial.unused_in.Given as goal

abbrev pub invariant-loop-lines_left : goal.invariant-loop-lines_left
invariant-loop-lines_left l = unused_in l.lines_left (values_in l.done_left) ≡ unused_in l.lines (values_in l.done)

abbrev pub decreases-loop-lines_left : goal.decreases-loop-lines_left
decreases-loop-lines_left l = length l.lines_left

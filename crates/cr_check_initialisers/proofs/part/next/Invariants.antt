use Rattle.std.proofs.Common.{◌≡◌, length}
use Rattle.cr_check_initialisers.specs.Steps.{left}
use Rattle.cr_check_initialisers.proofs.part.next.Given as goal

abbrev pub invariant-loop-frame : goal.invariant-loop-frame
invariant-loop-frame l = left l.source l.stack.items ≡ left l.source l.fn.stack.items

abbrev pub decreases-loop-frame : goal.decreases-loop-frame
decreases-loop-frame l = length l.stack.items

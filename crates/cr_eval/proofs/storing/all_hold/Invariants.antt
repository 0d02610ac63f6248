use Rattle.std.proofs.Common.{length}
use Rattle.cr_memory.specs.Memory.{AllHold}
use Rattle.cr_eval.proofs.storing.all_hold.Given as goal

abbrev pub invariant-loop-kinds_left : goal.invariant-loop-kinds_left
invariant-loop-kinds_left l = AllHold l.store l.kinds_left l.values_left → AllHold l.store l.fn.kinds l.fn.values

abbrev pub decreases-loop-kinds_left : goal.decreases-loop-kinds_left
decreases-loop-kinds_left l = length l.kinds_left

use Rattle.std.proofs.Common.{length}
use Rattle.cr_memory.specs.Flat.{OwnHold}
use Rattle.cr_memory.proofs.flat.own_hold.Given as goal

abbrev pub invariant-loop-left : goal.invariant-loop-left
invariant-loop-left l = OwnHold l.spans l.own_left l.left → OwnHold l.spans l.own l.values

abbrev pub decreases-loop-left : goal.decreases-loop-left
decreases-loop-left l = length l.left

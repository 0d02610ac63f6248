use Rattle.std.proofs.Common.{Bool, length}
use Rattle.cr_exec_calls.specs.Clashes.{MeetsAny}
use Rattle.cr_exec_calls.proofs.clashes.meets_any.Given as goal

abbrev pub invariant-loop-other : goal.invariant-loop-other
invariant-loop-other l = (b : Bool) → MeetsAny l.foot l.rest b → MeetsAny l.fn.foot l.later b

abbrev pub decreases-loop-other : goal.decreases-loop-other
decreases-loop-other l = length l.rest

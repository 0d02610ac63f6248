use Rattle.std.proofs.Common.{Bool, length}
use Rattle.cr_exec_calls.specs.Clashes.{Clashes}
use Rattle.cr_exec_calls.proofs.clashes.clash_in_pairs.Given as goal

abbrev pub invariant-loop-argument : goal.invariant-loop-argument
invariant-loop-argument l = (b : Bool) → Clashes l.rest b → Clashes l.done b

abbrev pub decreases-loop-argument : goal.decreases-loop-argument
decreases-loop-argument l = length l.rest

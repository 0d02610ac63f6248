use Rattle.std.proofs.Common.{length}
use Rattle.cr_exec_calls.specs.Taken.{LastTogether}
use Rattle.cr_exec_calls.proofs.clashes.clash_joined.Given as goal

abbrev pub invariant-loop-held : goal.invariant-loop-held
invariant-loop-held l = LastTogether l.done l.left l.later

abbrev pub decreases-loop-held : goal.decreases-loop-held
decreases-loop-held l = length l.left

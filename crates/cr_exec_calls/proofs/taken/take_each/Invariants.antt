use Rattle.std.proofs.Common.{◌≡◌, length}
use Rattle.cr_exec_calls.specs.Taken.{TakesSome}
use Rattle.cr_exec_calls.proofs.taken.take_each.Given as goal

abbrev pub invariant-loop-held : goal.invariant-loop-held
invariant-loop-held l = record {
  some : TakesSome l.fn.stack.top.done l.stack.top.done l.taken;
  below : l.stack.below ≡ l.fn.stack.below;
}

abbrev pub decreases-loop-held : goal.decreases-loop-held
decreases-loop-held l = length l.stack.top.done

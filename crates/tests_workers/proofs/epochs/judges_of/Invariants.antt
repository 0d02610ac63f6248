use Rattle.std.proofs.Common.{◌≡◌, length}
use Rattle.tests_workers.proofs.epochs.judges_of.Given as goal

abbrev pub invariant-loop-worker : goal.invariant-loop-worker
invariant-loop-worker l = length l.judges.items ≡ l.worker

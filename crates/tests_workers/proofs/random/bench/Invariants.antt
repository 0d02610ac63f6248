use Rattle.std.proofs.Common.{◌≡◌, length}
use Rattle.tests_workers.proofs.random.bench.Given as goal

abbrev pub invariant-loop : goal.invariant-loop
invariant-loop l = length l.judges.items ≡ l.counter

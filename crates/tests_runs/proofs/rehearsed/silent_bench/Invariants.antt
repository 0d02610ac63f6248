use Rattle.std.proofs.Common.{◌≡◌, length}
use Rattle.tests_runs.proofs.rehearsed.silent_bench.Given as goal

abbrev pub invariant-loop : goal.invariant-loop
invariant-loop l = length l.judges.items ≡ l.counter

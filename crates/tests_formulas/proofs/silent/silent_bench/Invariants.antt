use Rattle.std.proofs.Common.{◌≡◌, length}
use Rattle.tests_formulas.proofs.silent.silent_bench.Given as goal

abbrev pub invariant-loop : goal.invariant-loop
invariant-loop l = length l.judges.items ≡ l.counter

use Rattle.std.proofs.Common.{◌≡◌, length}
use Rattle.creduce.proofs.one_run.bench.Given as goal

abbrev pub invariant-loop-number : goal.invariant-loop-number
invariant-loop-number l = length l.judges.items ≡ l.number

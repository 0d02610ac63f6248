use Rattle.std.proofs.Common.{◌≡◌}
use Rattle.cr_pool.specs.Crew.{judges_in}
use Rattle.cr_pool.proofs.bench.crew_of.Given as goal

abbrev pub invariant-loop-judge : goal.invariant-loop-judge
invariant-loop-judge g l = judges_in l.workers.items ≡ l.yielded

use Rattle.cr_pool.specs.Endings.{NoneNoted}
use Rattle.cr_pool.proofs.remembered.noted.Given as goal

abbrev pub invariant-loop-i : goal.invariant-loop-i
invariant-loop-i g l = NoneNoted l.workers l.i l.at

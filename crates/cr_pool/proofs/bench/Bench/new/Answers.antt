use Rattle.std.proofs.Common.{subst, sym}
use Rattle.cr_pool.specs.Bench.{IsManned}
use Rattle.cr_pool.proofs.bench.Bench.new.Goals as goal

pub invariant_of-result : goal.invariant_of-result
invariant_of-result g c = subst (IsManned g.J.Judge.key) (sym c.in_ok-workers.ensures) c.requires

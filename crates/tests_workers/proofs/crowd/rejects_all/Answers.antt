use Rattle.std.proofs.Common.{arith}
use Rattle.tests_workers.proofs.Placing.{placed}
use Rattle.tests_workers.proofs.crowd.rejects_all.Goals as goal

pub epoch-end-requires-clause-placed : goal.epoch-end-requires-clause-placed
epoch-end-requires-clause-placed g c = λ a b. let count = c.positions-count.ensures.count c.args.file.now in placed _ _ (omega (arith, count)) (omega (arith, c.positions-count.ensures.few))

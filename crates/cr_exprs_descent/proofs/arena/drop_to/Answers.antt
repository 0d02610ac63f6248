use Rattle.std.proofs.Common.{arith}
use Rattle.cr_exprs_descent.proofs.Nodes.{keeps_all, keeps_none, keeps_front, front_length, below_front}
use Rattle.cr_exprs_descent.proofs.arena.drop_to.Goals as goal

pub dropped-init : goal.dropped-init
dropped-init c = record { keeps = keeps_none _; longer = c.requires.count }

pub dropped-preserved : goal.dropped-preserved
dropped-preserved c = record { keeps = keeps_all _ _ _ (keeps_front _ _ _ c.pop.ensures.last) c.dropped.invariant.keeps; longer = omega (arith, front_length _ _ _ (omega arith) c.pop.ensures.last c.pop.ensures.none) }

pub dropped-smaller : goal.dropped-smaller
dropped-smaller c = omega (arith, front_length _ _ _ (omega arith) c.pop.ensures.last c.pop.ensures.none)

pub returns-clause-below : goal.returns-clause-below
returns-clause-below c = below_front _ _ c.dropped.invariant.keeps c.requires.below

use Rattle.std.proofs.Common.{ℕ, List, [], ◌∷◌, arith}
use Rattle.tests_workers.proofs.Placing.{placed}
use Rattle.tests_workers.proofs.epochs.epoch.Goals as goal

-- the three lines
lines : List ℕ
lines = 105 ∷ 110 ∷ 116 ∷ 32 ∷ 97 ∷ 59 ∷ 10 ∷ 105 ∷ 110 ∷ 116 ∷ 32 ∷ 98 ∷ 59 ∷ 10 ∷ 105 ∷ 110 ∷ 116 ∷ 32 ∷ 99 ∷ 59 ∷ 10 ∷ []

pub epoch-requires-clause-placed : goal.epoch-requires-clause-placed
unfolding lines
epoch-requires-clause-placed g c = λ a b. let count = c.positions.ensures.count lines in placed _ _ (omega (arith, count)) (omega arith)

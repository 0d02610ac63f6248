-- Lists that numbers give.
use Rattle.std.specs.Prelude.{ℕ, zero, suc, List, [], ◌++◌}

-- what the numbers below n give, one after the other
abbrev pub gathered : {X : Type 0} → (ℕ → List X) → ℕ → List X
gathered gives zero = []
gathered gives (suc n) = gathered gives n ++ gives n

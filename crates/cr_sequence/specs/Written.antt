-- Items written over others.
use Rattle.std.specs.Prelude.{ℕ, suc, List, [], ◌∷◌, slice_set}

-- the items written over those that stand from a place on
abbrev pub overwritten : {X : Type 0} → List X → ℕ → List X → List X
overwritten items place [] = items
overwritten items place (item ∷ rest) = overwritten (slice_set items place item) (suc place) rest

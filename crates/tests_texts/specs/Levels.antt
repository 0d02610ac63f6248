-- What the levels of the tests give.
use Rattle.std.specs.Prelude.{ℕ, List, [], ◌∷◌}
use Rattle.pass_edit.specs.declared.change.Text.TheVariants as text
use Rattle.pass_levels.specs.declared.counted.Counted.{Counted}

-- an edit of one change, which is told apart by where it starts
abbrev pub counted : ℕ → ℕ → ℕ → Counted
counted first last start = record { first = first; last = last; edit = record { start = start; end = 9; text = text.Nothing } ∷ [] }

abbrev pub three : List Counted
three = counted 5 6 1 ∷ (counted 5 9 2 ∷ (counted 1 2 3 ∷ []))

-- What a stop leaves of a file that is being changed. Changes stand in a list, the newest first.
use Rattle.std.specs.Prelude.{◌≡◌, ℕ, ◌+◌, ◌≤◌, max, min, List, [], ◌∷◌, ◌++◌, length, take, drop, replicate}
use Rattle.cr_outside.specs.Story.{Change}
use Rattle.cr_outside.specs.Story.Change.{Written, Cut, Synced}

-- the file with these bytes at this place
abbrev pub put : ℕ → List ℕ → List ℕ → List ℕ
put at bytes file = take at file ++ bytes ++ drop (at + length bytes) file

-- what a read gives after these changes of a file that was `first`
abbrev pub seen_after : List ℕ → List Change → List ℕ
seen_after first [] = first
seen_after first (Written at bytes ∷ older) = put at bytes (seen_after first older)
seen_after first (Cut len ∷ older) = take len (seen_after first older)
seen_after first (Synced ∷ older) = seen_after first older

-- An unsynced write of n bytes makes `new` of `old`: any bytes in its range and past the old end, and any length from the old
-- end to its own; the same elsewhere.
pub record Torn (at n : ℕ) (old new : List ℕ) : Type 0 where
  pub before : take (min at (length old)) new ≡ take at old
  pub after : drop (at + n) new ≡ drop (at + n) old
  pub no_shorter : length old ≤ length new
  pub no_longer : length new ≤ max (length old) (at + n)

-- An unsynced cut makes `new` of `old`: the old bytes at any length from the new one to the old one.
pub record CutShort (len : ℕ) (old new : List ℕ) : Type 0 where
  pub no_shorter : min len (length old) ≤ length new
  pub front : take (length new) old ≡ new

-- What a stop after these changes may leave: after a sync what a read gives, else what each unsynced change may, one
-- after the other.
abbrev pub Leaves : List ℕ → List Change → List ℕ → Type 0
Leaves first [] image = image ≡ first
Leaves first (Written at bytes ∷ older) image = (before : List ℕ) × Leaves first older before × Torn at (length bytes) before image
Leaves first (Cut len ∷ older) image = (before : List ℕ) × Leaves first older before × CutShort len before image
Leaves first (Synced ∷ older) image = image ≡ seen_after first older

-- what a read gives, with this byte in the place of each unsynced one
abbrev pub filled : ℕ → List ℕ → List Change → List ℕ
filled fill first [] = first
filled fill first (Written at bytes ∷ older) = put at (replicate (length bytes) fill) (filled fill first older)
filled fill first (Cut len ∷ older) = take len (filled fill first older)
filled fill first (Synced ∷ older) = seen_after first older

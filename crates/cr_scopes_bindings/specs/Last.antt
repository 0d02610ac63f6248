-- The last of numbers that has a key.
use Rattle.std.specs.Prelude.{◌≡◌, ◌<◌, ℕ, zero, suc, List, Option, None, Some, length, slice_index_or, if◌then◌else◌}
use Rattle.cr_scopes.specs.Resolved.{is_number}

-- of the numbers below a bound the last one whose key this is
abbrev pub last_with : (ℕ → Option ℕ) → ℕ → ℕ → Option ℕ
last_with key zero k = None
last_with key (suc i) k = if is_number (key i) k then Some i else last_with key i k

-- a column that has, for each of so many keys, the last number below a bound with that key
pub record AreLast (key : ℕ → Option ℕ) (bound keys : ℕ) (column : List (Option ℕ)) : Type 0 where
  pub count : length column ≡ keys
  pub each : (k : ℕ) → k < keys → slice_index_or column k None ≡ last_with key bound k

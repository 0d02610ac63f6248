-- What the judges of a run know together: the smallest file so far that passed the test, and where it stands. Sizes are bytes.
use Rattle.std.specs.Prelude.{ℕ, List, ◌++◌, Option, Some, None, Bool, true, min, nat_lt, codes}

-- whether a file of this size is smaller than each one before
abbrev pub is_smallest : Option ℕ → ℕ → Bool
is_smallest None _ = true
is_smallest (Some best) bytes = nat_lt bytes best

-- the smallest size, with that of one more file
abbrev pub smallest_of : Option ℕ → ℕ → ℕ
smallest_of None bytes = bytes
smallest_of (Some best) bytes = min bytes best

-- the smallest file, beside the file that is reduced
abbrev pub best_of : List ℕ → List ℕ
best_of reduced = reduced ++ codes ".best"

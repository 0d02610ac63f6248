-- Columns of what a function gives.
use Rattle.std.specs.Prelude.{◌≡◌, ◌<◌, ℕ, List, length, slice_index_or}

-- so many entries of a column are what a function gives
pub record AreOf {A : Type 0} (f : ℕ → A) (nothing : A) (bound : ℕ) (column : List A) : Type 0 where
  pub count : length column ≡ bound
  pub each : (k : ℕ) → k < bound → slice_index_or column k nothing ≡ f k

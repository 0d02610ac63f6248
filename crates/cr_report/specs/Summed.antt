-- What the columns of a table sum up to.
use Rattle.std.specs.Prelude.{◌≡◌, ℕ, ◌+◌, List, [], ◌∷◌, length, sum_by}
use Rattle.cr_reduce.specs.declared.end.Accepted.{Accepted}
use Rattle.cr_report.specs.declared.cells.Cell.{Cell}
use Rattle.cr_report.specs.declared.cells.Columns.{Columns}
use Rattle.cr_report.specs.declared.reduction.Reduction.{Reduction}

-- the size behind these rows, where this one stands before them
abbrev pub size_behind : ℕ → List Accepted → ℕ
size_behind size [] = size
size_behind size (one ∷ rest) = size_behind one.size rest

-- the same of the turns
abbrev pub turns_behind : ℕ → List Accepted → ℕ
turns_behind turns [] = turns
turns_behind turns (one ∷ rest) = turns_behind one.turn rest

-- how many rows, turns, and how much size all cells have together
abbrev pub rows_in : List Cell → ℕ
rows_in cells = sum_by (λ c. c.accepted) cells

abbrev pub turns_in : List Cell → ℕ
turns_in cells = sum_by (λ c. c.turns) cells

abbrev pub removed_in : List Cell → ℕ
removed_in cells = sum_by (λ c. c.removed) cells

-- the cells' columns sum up to so many rows, to these turns, and to what is between the two sizes
pub record IsSummed (cells : List Cell) (rows turns begun size : ℕ) : Type 0 where
  pub accepted : rows_in cells ≡ rows
  pub spent : turns_in cells ≡ turns
  pub removed : removed_in cells + size ≡ begun

-- the columns are of these rows
pub record AreColumns (begun : ℕ) (rows : List Accepted) (columns : Columns) : Type 0 where
  pub summed : IsSummed columns.cells.items (length rows) columns.turn begun columns.size
  pub turn : columns.turn ≡ turns_behind 0 rows
  pub size : columns.size ≡ size_behind begun rows

-- a reduction's columns sum up to its rows, to the turns but for those in vain at its end, and to the first size less the last
pub record IsWhole (r : Reduction) : Type 0 where
  pub rows : rows_in r.cells.items ≡ length r.accepted.items
  pub turns : turns_in r.cells.items + r.vain ≡ r.turns
  pub sizes : removed_in r.cells.items + r.size ≡ r.begun

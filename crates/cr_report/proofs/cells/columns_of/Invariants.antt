use Rattle.std.proofs.Common.{◌≡◌, ℕ, List, drop}
use Rattle.cr_reduce.specs.declared.end.Accepted.{Accepted}
use Rattle.cr_report.specs.declared.cells.Cell.{Cell}
use Rattle.cr_report.specs.Summed.{IsSummed, size_behind, turns_behind}
use Rattle.cr_report.proofs.cells.columns_of.Given as goal

-- The cells have the rows so far, and what is behind the others is behind all.
pub record HasAdded (begun : ℕ) (rows : List Accepted) (index : ℕ) (cells : List Cell) (size turn : ℕ) : Type 0 where
  pub summed : IsSummed cells index turn begun size
  pub turns : turns_behind turn (drop index rows) ≡ turns_behind 0 rows
  pub sizes : size_behind size (drop index rows) ≡ size_behind begun rows

abbrev pub invariant-loop-index : goal.invariant-loop-index
invariant-loop-index l = HasAdded l.begun l.accepted l.index l.cells.items l.size l.turn

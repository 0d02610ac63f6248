use Rattle.std.proofs.Common.{◌≡◌, ◌||◌, take}
use Rattle.cr_footprint.specs.Cell.{Cell, holds}
use Rattle.cr_footprint.specs.Cells.{has}
use Rattle.cr_footprint.proofs.cells.Cells.insert_all.Given as goal

abbrev pub invariant-loop-cell : goal.invariant-loop-cell
invariant-loop-cell l =
    (c : Cell) → has l.self c ≡ (has l.initial.self c || holds (take l.cell-index l.cell-items) c)

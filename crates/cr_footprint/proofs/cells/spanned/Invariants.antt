use Rattle.std.proofs.Common.{◌≡◌, ◌≤◌, ◌⊎◌}
use Rattle.cr_footprint.specs.Cell.{Spans}
use Rattle.cr_footprint.proofs.cells.spanned.Given as goal

abbrev pub invariant-loop-cell : goal.invariant-loop-cell
invariant-loop-cell l =
    Spans l.object l.fn.cells.start l.cell-iterator.start l.all.items
    × ((l.cell-iterator.start ≡ l.fn.cells.start) ⊎ (l.cell-iterator.start ≤ l.fn.cells.end))
    × (l.fn.cells.start ≤ l.cell-iterator.start)
    × (l.cell-iterator.end ≡ l.fn.cells.end)

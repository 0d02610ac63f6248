-- A set of cells, kept as a list.
use Rattle.std.specs.Prelude.{Bool}
use Rattle.cr_footprint.specs.Cell.{Cell, holds}
use Rattle.cr_footprint.specs.declared.cells.Cells.{Cells}

abbrev pub has : Cells → Cell → Bool
has cells c = holds cells.list c

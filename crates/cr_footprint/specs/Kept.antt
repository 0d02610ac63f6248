-- The cells of a list, however it is kept.
use Rattle.std.specs.Prelude.{List, [], ◌∷◌}
use Rattle.cr_footprint.specs.Cell.{Cell}
use Rattle.cr_footprint.specs.declared.list.Kept.{Kept}
use Rattle.cr_footprint.specs.declared.list.Kept.TheVariants.{Nothing, One, More}

abbrev pub cells_of : Kept → List Cell
cells_of Nothing = []
cells_of (One cell) = cell ∷ []
cells_of (More list) = list.value.items

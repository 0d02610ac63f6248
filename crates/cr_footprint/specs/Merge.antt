-- Two lists of cells in rising order, as one.
use Rattle.std.specs.Prelude.{List, [], ◌∷◌}
use Rattle.std.specs.declared.cmp.Ordering.{Ordering}
use Rattle.std.specs.declared.cmp.Ordering.TheVariants.{Less, Equal, Greater}
use Rattle.cr_footprint.specs.Cell.{Cell, cell_cmp}

abbrev pub by_order : Ordering → List Cell → List Cell → List Cell → List Cell
by_order Less less equal greater = less
by_order Equal less equal greater = equal
by_order Greater less equal greater = greater

-- a list with x before `after`, merged with another, where `rest` merges `after` with one
abbrev pub woven : (List Cell → List Cell) → Cell → List Cell → List Cell → List Cell
woven rest x after [] = x ∷ after
woven rest x after (y ∷ others) = by_order (cell_cmp x y) (x ∷ rest (y ∷ others)) (x ∷ rest others) (y ∷ woven rest x after others)

abbrev pub merged : List Cell → List Cell → List Cell
merged [] others = others
merged (x ∷ after) others = woven (merged after) x after others

-- A cell of memory: the number of its object, and its number in the object.
use Rattle.std.specs.Prelude.{◌≡◌, ℕ, Bool, true, false, ◌&&◌, ◌==◌, nat_lt, not, ◌<◌, List, length, slice_index_or, Option, MatchOption}
use Rattle.std.specs.List.{list_any}
use Rattle.std.specs.declared.cmp.Ordering.{Ordering}
use Rattle.std.specs.declared.cmp.Ordering.TheVariants.{Less}
use Rattle.std.specs.Ordering.{nat_cmp, ordering_then, is_gt}

abbrev pub Cell : Type 0
Cell = ℕ × ℕ

-- the order of cells: by object, then by cell
abbrev pub cell_cmp : Cell → Cell → Ordering
cell_cmp c d = ordering_then (nat_cmp c.0 d.0) (nat_cmp c.1 d.1)

abbrev pub same_cell : Cell → Cell → Bool
same_cell c d = (c.0 == d.0) && (c.1 == d.1)

-- the cells of one object from the one with the number `first` up to the one before `end`
abbrev pub span : ℕ → ℕ → ℕ → Cell → Bool
span object first end c = (c.0 == object) && (not (nat_lt c.1 first) && nat_lt c.1 end)

-- whether a cell stands in a list
abbrev pub holds : List Cell → Cell → Bool
holds cells c = list_any (same_cell c) cells

-- the cells stand in rising order: each is below every later one
abbrev pub IsRising : List Cell → Type 0
IsRising cells = (i j : ℕ) (d : Cell) → i < j → j < length cells
    → cell_cmp (slice_index_or cells i d) (slice_index_or cells j d) ≡ Less

-- the cells of a range of one object, in rising order
abbrev pub Spans : ℕ → ℕ → ℕ → List Cell → Type 0
Spans object first end cells = IsRising cells × ((c : Cell) → holds cells c ≡ span object first end c)

-- c is in the set, and no cell of the set is below it
pub record IsLeast (set : Cell → Bool) (c : Cell) : Type 0 where
  pub inside : set c ≡ true
  pub least : (d : Cell) → set d ≡ true → is_gt (cell_cmp c d) ≡ false

-- the least cell of a set, or none where the set is empty
abbrev pub IsLeastOf : (Cell → Bool) → Option Cell → Type 0
IsLeastOf set found = MatchOption found ((c : Cell) → set c ≡ false) (IsLeast set)

-- What is tested of a typed unit's types.
use Rattle.std.specs.Prelude.{◌≡◌, ℕ, ◌*◌, ◌<◌, ◌≤◌, List, Bool, true, Option, None, Some, length, nat_lt, nat_le, slice_get, slice_index_or}
use Rattle.std.specs.List.{All, list_all, sum_by}
use Rattle.cr_syntax.specs.declared.ctype.CType.TheVariants.{Struct}
use Rattle.cr_check_types.specs.declared.layout.Layout.{Layout}
use Rattle.cr_check_types.specs.declared.shape.Shape.{Shape}
use Rattle.cr_check_types.specs.Types.{Qualified, plain, pointer, array, type_at}
use Rattle.cr_check_types.specs.Layouts.{fitted, layout_of}
use Rattle.cr_typed.specs.declared.typed.Typed.{Typed}
use Rattle.cr_typed.specs.Typed.{MOST_CELLS, IsBefore, row_cells}
use Rattle.cr_typed_fit.specs.declared.extents.Extent.{Extent}

-- ---- what is said of a typed unit whose types fit

-- they have the cells and structures that they may have
pub record IsFitting (t : Typed) : Type 0 where
  pub cells_fit : (row : ℕ) → row_cells t row ≤ MOST_CELLS
  pub members_fit : (k : ℕ) (rows : List ℕ) → slice_get t.members k ≡ Some rows → sum_by (row_cells t) rows ≤ MOST_CELLS
  pub members_before : (k : ℕ) (rows : List ℕ) → slice_get t.members k ≡ Some rows → All (λ row. IsBefore k (type_at t.shapes row)) rows

-- ---- what types take

abbrev pub no_extent : Extent
no_extent = record { cells = 0; structure = None }

-- the structure that a type is, or that the elements of its arrays are
abbrev pub structure_within : Qualified → Option ℕ
structure_within (plain (Struct node) c v) = Some node
structure_within (plain of c v) = None
structure_within (pointer c v t) = None
structure_within (array n t) = structure_within t

abbrev pub extent_of : List Layout → Qualified → Extent
extent_of layouts type = record { cells = (layout_of layouts type).cells; structure = structure_within type }

-- so many of a type
abbrev pub times_over : ℕ → Extent → Extent
times_over count one = record { cells = fitted (count * one.cells); structure = one.structure }

-- those of the first so many rows
pub record AreExtents (shapes : List Shape) (layouts : List Layout) (rows : ℕ) (extents : List Extent) : Type 0 where
  pub count : length extents ≡ rows
  pub each : (row : ℕ) → row < rows → slice_index_or extents row no_extent ≡ extent_of layouts (type_at shapes row)

-- K7
abbrev pub is_small : Extent → Bool
is_small extent = nat_le extent.cells MOST_CELLS

-- the structure is of an earlier node, if there is one (6.7.2.1p3)
abbrev pub is_before : ℕ → Option ℕ → Bool
is_before node None = true
is_before node (Some inner) = nat_lt inner node

abbrev pub cells_in : List Extent → ℕ → ℕ
cells_in extents row = (slice_index_or extents row no_extent).cells

-- the members of a structure, by their rows
pub record AreSuited (extents : List Extent) (node : ℕ) (rows : List ℕ) : Type 0 where
  pub few : sum_by (cells_in extents) rows ≤ MOST_CELLS
  pub before : list_all (λ row. is_before node (slice_index_or extents row no_extent).structure) rows ≡ true

abbrev pub AreMembers : List Extent → List (List ℕ) → Type 0
AreMembers extents members = (node : ℕ) (rows : List ℕ) → slice_get members node ≡ Some rows → AreSuited extents node rows

pub record HasRoom (t : Typed) (extents : List Extent) : Type 0 where
  pub small : list_all is_small extents ≡ true
  pub members : AreMembers extents t.members

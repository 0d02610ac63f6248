-- What the columns of a typed unit have to be, beside what the constraints say of their content.
use Rattle.std.specs.Prelude.{◌≡◌, ℕ, ◌<◌, ◌≤◌, ◌^◌, List, Some, length, slice_get, sum_by}
use Rattle.std.specs.List.{All}
use Rattle.cr_syntax.specs.Kept.{PartsAreBelow}
use Rattle.cr_syntax.specs.Words.{AreSpans}
use Rattle.cr_syntax.specs.declared.ctype.CType.TheVariants.{Struct}
use Rattle.cr_check_types.specs.Types.{Qualified, plain, pointer, array, unknown, type_at, IsTable}
use Rattle.cr_check_types.specs.Layouts.{layout_of}
use Rattle.cr_typed.specs.declared.typed.Typed.{Typed}

-- each entry is below a number
abbrev pub AreBelow : ℕ → List ℕ → Type 0
AreBelow most numbers = (k n : ℕ) → slice_get numbers k ≡ Some n → n < most

-- the scalars in a row's type
abbrev pub row_cells : Typed → ℕ → ℕ
row_cells t row = (layout_of t.layouts (type_at t.shapes row)).cells

-- a structure in a type, that of an array's elements too, is of an earlier node (6.7.2.1p3)
abbrev pub IsBefore : ℕ → Qualified → Type 0
IsBefore node (plain (Struct inner) c v) = inner < node
IsBefore node (plain of c v) = Unit {0}
IsBefore node (pointer c v below) = Unit {0}
IsBefore node (array n below) = IsBefore node below

-- the cells that a type may have (K7)
abbrev pub MOST_CELLS : ℕ
MOST_CELLS = 1048576

-- one entry a node, and rows and nodes that are there
pub record IsTyped (t : Typed) : Type 0 where
  pub nodes_fit : length t.nodes < 2 ^ 32
  pub parts_below : PartsAreBelow t.nodes
  pub spans : AreSpans t.file t.tokens
  pub table : IsTable t.shapes
  pub no_type : type_at t.shapes 0 ≡ unknown
  pub cells_fit : (row : ℕ) → row_cells t row ≤ MOST_CELLS
  pub types_count : length t.types ≡ length t.nodes
  pub types_rows : AreBelow (length t.shapes) t.types
  pub named_count : length t.named ≡ length t.nodes
  pub named_rows : AreBelow (length t.shapes) t.named
  pub refs_count : length t.refs ≡ length t.nodes
  pub refs_nodes : (k n : ℕ) → slice_get t.refs k ≡ Some (Some n) → n < length t.nodes
  pub valued_count : length t.valued ≡ length t.nodes
  pub durations_count : length t.durations ≡ length t.nodes
  pub constants_count : length t.constants ≡ length t.nodes
  pub layouts_count : length t.layouts ≡ length t.nodes
  pub members_count : length t.members ≡ length t.nodes
  pub members_rows : (k : ℕ) (rows : List ℕ) → slice_get t.members k ≡ Some rows → AreBelow (length t.shapes) rows
  pub members_fit : (k : ℕ) (rows : List ℕ) → slice_get t.members k ≡ Some rows → sum_by (row_cells t) rows ≤ MOST_CELLS
  pub members_before : (k : ℕ) (rows : List ℕ) → slice_get t.members k ≡ Some rows → All (λ row. IsBefore k (type_at t.shapes row)) rows
  pub chosen_count : length t.chosen ≡ length t.nodes
  pub parameters_count : length t.parameters ≡ length t.nodes
  pub parameters_nodes : (k : ℕ) (names : List ℕ) → slice_get t.parameters k ≡ Some names → AreBelow (length t.nodes) names
  pub plans_count : length t.plans ≡ length t.nodes
  pub texts_count : length t.texts ≡ length t.nodes
  pub main_node : t.main < length t.nodes

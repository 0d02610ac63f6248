-- What the operation of a node has to be, and the sorts of values and places.
use Rattle.std.specs.Prelude.{ℕ, Bool, false, Option, slice_index_or, if◌then◌else◌}
use Rattle.cr_syntax.specs.declared.ctype.CType.TheVariants.{Int, Struct}
use Rattle.cr_check_types.specs.Types.{Qualified, plain, pointer as to, array}
use Rattle.cr_typed.specs.declared.typed.Typed.{Typed}
use Rattle.cr_meaning.specs.World.{Program}
use Rattle.cr_meaning.specs.declared.op.Op.{Op}
use Rattle.cr_meaning_operations.specs.Shapes.{type_of_node}
use Rattle.cr_meaning_soundness.specs.Sorts.{Sort, void, number, pointer, place, cells}
use Rattle.cr_meaning_soundness.specs.Rules.{IsTyped}
use Rattle.cr_meaning_soundness.specs.Operands.{Demands}

-- its operation gives the sort, and takes what it needs
pub record IsGood (p : Program) (sorts : ℕ → Option Sort) (sees : ℕ → Bool) (op : Op) (own : Sort) : Type 0 where
  pub typed : IsTyped p sorts op own
  pub demands : Demands sorts sees op op.work

-- ---- sorts

abbrev pub value_sort : Program → ℕ → Qualified → Sort
value_sort p row (plain (Int kind) c v) = number kind
value_sort p row (plain (Struct node) c v) = cells (p.kinds row)
value_sort p row (to c v below) = pointer
value_sort p row (array n below) = pointer
value_sort p row other = void

abbrev pub row_at : Typed → ℕ → ℕ
row_at t node = slice_index_or t.types node 0

-- a place of so many cells, as the node uses it (6.3.2.1p2, p3)
abbrev pub place_sort : Program → Typed → ℕ → ℕ → Sort
place_sort p t node count = if slice_index_or t.valued node false then value_sort p (row_at t node) (type_of_node t node) else place count

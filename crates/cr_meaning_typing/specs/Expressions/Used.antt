-- Expressions that are used as values: of each type its value, but that an array that is no place stays one.
use Rattle.std.specs.Prelude.{◌≡◌, ℕ, Bool, Option, Some, if◌then◌else◌}
use Rattle.cr_typed.specs.declared.typed.Typed.{Typed}
use Rattle.cr_check_types.specs.Types.{Qualified, plain, pointer as to, array}
use Rattle.cr_check_operands.specs.Values.{Seen}
use Rattle.cr_meaning.specs.World.{Program}
use Rattle.cr_meaning_soundness.specs.Sorts.{Sort, cells}
use Rattle.cr_meaning_operations.specs.Shapes.{type_of_node}
use Rattle.cr_meaning_typing.specs.Typed.Good.{value_sort, row_at}

-- what is no place
abbrev pub beside_sort : Program → ℕ → Qualified → Sort
beside_sort p row (plain of c v) = value_sort p row (plain of c v)
beside_sort p row (to c v below) = value_sort p row (to c v below)
beside_sort p row (array n below) = cells (p.kinds row)

abbrev pub used_sort : Program → Bool → ℕ → Qualified → Sort
used_sort p lvalue row type = if lvalue then value_sort p row type else beside_sort p row type

abbrev pub IsUsedAt : Program → Typed → (ℕ → Option Sort) → (ℕ → Seen) → ℕ → Type 0
IsUsedAt p t sorts at a = sorts a ≡ Some (used_sort p (at a).lvalue (row_at t a) (type_of_node t a))

-- Places, members, literals and constants, from types. In the order of C11 6.5.
use Rattle.std.specs.Prelude.{◌≡◌, ℕ, ℤ, ◌≤◌, Bool, true, false, Option, Some, [], ◌∷◌, length, take, drop, slice_index_or}
use Rattle.cr_ints.specs.IntKind.{Represents}
use Rattle.cr_check_constants.specs.declared.constant.Constant.TheVariants.{Value}
use Rattle.cr_check_constants.specs.declared.constant.Operand.{Operand}
use Rattle.cr_syntax.specs.declared.node.Kind.TheVariants as kind
use Rattle.cr_typed.specs.declared.typed.Typed.{Typed}
use Rattle.cr_typed.specs.Typed.{row_cells}
use Rattle.cr_check_types.specs.Types.{Qualified, type_at}
use Rattle.cr_check_operands.specs.Values.{Seen, value_of_seen, number as a_number}
use Rattle.cr_check_operands.specs.Places.{dereferenced, subscripted, address_value, member_of, pointed_member_of, text_of}
use Rattle.cr_check_expressions.specs.Ruled.{given, is_typed}
use Rattle.cr_meaning.specs.World.{Program}
use Rattle.cr_meaning.specs.Values.{kinds_in}
use Rattle.cr_meaning.specs.declared.op.Work.TheVariants as work
use Rattle.cr_meaning.specs.declared.run.Limits.{Limits}
use Rattle.cr_meaning_soundness.specs.Sorts.{Sort, place, cells, chars}
use Rattle.cr_meaning_soundness.specs.Rules.{IsWithin}
use Rattle.cr_meaning_operations.specs.Shapes.{type_of_node, cells_of, name_in, pointed_element, form_of, offset_in}
use Rattle.cr_meaning_operations.specs.Operations.{node_op, placed, parts_at, kind_at, left_type, right_type, either_element, address_by, pointed, chosen_row, member, pointer_member, constant, program_of}
use Rattle.cr_meaning_typing.specs.Typed.Good.{IsGood, place_sort, row_at}
use Rattle.cr_meaning_typing.specs.Typed.Columns.{AreColumns, IsValueAt, IsGoodAt}
use Rattle.cr_meaning_typing.specs.Typed.Placed.{IsObject}
use Rattle.cr_meaning_typing.specs.Expressions.Used.{beside_sort}

abbrev pub cells_at : Typed → ℕ → ℕ
cells_at t i = cells_of t (type_of_node t i)

-- an object's type with the cells of its layout
abbrev pub HasCells : Typed → ℕ → Type 0
HasCells t i = IsObject t (cells_at t i) (type_of_node t i)

-- ---- 6.5.1: constants and enumerators; a string literal, as the object that it is, or where it fills an array; brackets

abbrev pub ConstantsAreGood : Type 0
ConstantsAreGood = (p : Program) (t : Typed) (sorts : ℕ → Option Sort) (sees : ℕ → Bool) (at : ℕ → Seen) → AreColumns t at → (i : ℕ) (x : Operand) (v : ℤ)
    → at i ≡ given (a_number x) → x.constant ≡ Value v → Represents x.kind v → IsGoodAt p t sorts sees i (constant t i)

abbrev pub LiteralsAreGood : Type 0
LiteralsAreGood = (t : Typed) (limits : Limits) (sorts : ℕ → Option Sort) (sees : ℕ → Bool) (at : ℕ → Seen) → AreColumns t at → (i : ℕ)
    → kind_at t i ≡ kind.Text → at i ≡ text_of (length (slice_index_or t.texts i [])) → 1 ≤ length (slice_index_or t.texts i []) → sees i ≡ true
    → IsGood (program_of t limits) sorts sees (placed t i [] (work.Object i (name_in t (type_of_node t i)))) (place_sort (program_of t limits) t i (length (slice_index_or t.texts i [])))
    × (slice_index_or t.valued i false ≡ false → IsGood (program_of t limits) sorts sees (placed t i [] (work.Object i (name_in t (type_of_node t i)))) chars)

abbrev pub GroupsAreGood : Type 0
GroupsAreGood = (t : Typed) (limits : Limits) (sorts : ℕ → Option Sort) (sees : ℕ → Bool) (at : ℕ → Seen) → AreColumns t at → (i a count : ℕ)
    → parts_at t i ≡ a ∷ [] → at i ≡ at a
    → (sorts a ≡ Some (place count) → IsObject t count (type_of_node t i)
    → IsGood (program_of t limits) sorts sees (placed t i (parts_at t i) work.Pass) (place_sort (program_of t limits) t i count))
    × (sorts a ≡ Some (beside_sort (program_of t limits) (row_at t a) (type_of_node t a))
    → IsGood (program_of t limits) sorts sees (placed t i (parts_at t i) work.Pass) (beside_sort (program_of t limits) (row_at t i) (type_of_node t i)))

-- ---- 6.5.2.1: subscripts (K19)

abbrev pub SubscriptsAreGood : Type 0
SubscriptsAreGood = (p : Program) (t : Typed) (sorts : ℕ → Option Sort) (sees : ℕ → Bool) (at : ℕ → Seen) (complete : Qualified → Bool) → AreColumns t at → (i a b : ℕ)
    → parts_at t i ≡ a ∷ b ∷ [] → at i ≡ subscripted complete (value_of_seen (at a)) (value_of_seen (at b)) → is_typed (at i) ≡ true
    → IsValueAt p t sorts a → IsValueAt p t sorts b → HasCells t i
    → IsGood p sorts sees (placed t i (parts_at t i) (work.Subscript (either_element t (left_type t i) (right_type t i)))) (place_sort p t i (cells_at t i))

-- ---- 6.5.2.3: members (K20, K21)

-- the type of the left operand, in its place
abbrev pub left_whole : Typed → ℕ → Qualified
left_whole t i = type_of_node t (slice_index_or (parts_at t i) 0 0)

-- the member that the columns name lies within the structure, and the node has its cells
pub record IsMemberIn (t : Typed) (i : ℕ) (structure : Qualified) : Type 0 where
  pub within : IsWithin (cells_of t structure) (offset_in t structure (slice_index_or t.chosen i 0)) (row_cells t (chosen_row t i structure))
  pub object : IsObject t (row_cells t (chosen_row t i structure)) (type_of_node t i)

-- of a structure that is no place, the member's cells are among its own
abbrev pub AreAmong : Typed → Limits → ℕ → ℕ → Type 0
AreAmong t limits i a =
    take (row_cells t (chosen_row t i (type_of_node t a))) (drop (offset_in t (type_of_node t a) (slice_index_or t.chosen i 0)) ((program_of t limits).kinds (row_at t a)))
    ≡ kinds_in (program_of t limits) (form_of t (chosen_row t i (type_of_node t a)))

abbrev pub MembersAreGood : Type 0
MembersAreGood = (t : Typed) (limits : Limits) (sorts : ℕ → Option Sort) (sees : ℕ → Bool) (at : ℕ → Seen) → AreColumns t at → (i a count : ℕ)
    → parts_at t i ≡ a ∷ [] → at i ≡ member_of (Some (type_at t.shapes (chosen_row t i (type_of_node t a)))) (at a) → IsMemberIn t i (type_of_node t a)
    → (sorts a ≡ Some (place count) → IsGood (program_of t limits) sorts sees (member t i (left_whole t i)) (place_sort (program_of t limits) t i (row_cells t (chosen_row t i (type_of_node t a)))))
    × (sorts a ≡ Some (cells ((program_of t limits).kinds (row_at t a))) → AreAmong t limits i a
    → IsGood (program_of t limits) sorts sees (member t i (left_whole t i)) (beside_sort (program_of t limits) (row_at t i) (type_of_node t i)))

abbrev pub PointerMembersAreGood : Type 0
PointerMembersAreGood = (p : Program) (t : Typed) (sorts : ℕ → Option Sort) (sees : ℕ → Bool) (at : ℕ → Seen) → AreColumns t at → (i a : ℕ) (found : Option Qualified)
    → parts_at t i ≡ a ∷ [] → at i ≡ pointed_member_of found (value_of_seen (at a)) → is_typed (at i) ≡ true → IsValueAt p t sorts a → IsMemberIn t i (pointed (left_type t i))
    → IsGood p sorts sees (pointer_member t i (pointed (left_type t i))) (place_sort p t i (row_cells t (chosen_row t i (pointed (left_type t i)))))

-- ---- 6.5.3.2: `&` (K23), of what `*` gives, of what a subscript gives, and of another place; and `*` (K24)

abbrev pub AddressesAreGood : Type 0
AddressesAreGood = (p : Program) (t : Typed) (sorts : ℕ → Option Sort) (sees : ℕ → Bool) (at : ℕ → Seen) → AreColumns t at → (i a : ℕ)
    → parts_at t i ≡ a ∷ [] → at i ≡ given (address_value (at a)) → is_typed (at i) ≡ true
    → (((complete : Qualified → Bool) (e : ℕ) → parts_at t a ≡ e ∷ [] → at a ≡ dereferenced complete (value_of_seen (at e)) → IsValueAt p t sorts e → IsGoodAt p t sorts sees i (node_op (parts_at t a) work.Pass))
    × ((complete : Qualified → Bool) (e f : ℕ) → parts_at t a ≡ e ∷ f ∷ [] → at a ≡ subscripted complete (value_of_seen (at e)) (value_of_seen (at f)) → IsValueAt p t sorts e → IsValueAt p t sorts f
    → IsGoodAt p t sorts sees i (address_by t i a kind.Subscript)))
    × ((count : ℕ) → sorts a ≡ Some (place count) → IsGoodAt p t sorts sees i (node_op (parts_at t i) work.AddressOf))

abbrev pub FollowedAreGood : Type 0
FollowedAreGood = (p : Program) (t : Typed) (sorts : ℕ → Option Sort) (sees : ℕ → Bool) (at : ℕ → Seen) (complete : Qualified → Bool) → AreColumns t at → (i a : ℕ)
    → parts_at t i ≡ a ∷ [] → at i ≡ dereferenced complete (value_of_seen (at a)) → is_typed (at i) ≡ true → IsValueAt p t sorts a → HasCells t i
    → IsGood p sorts sees (placed t i (parts_at t i) (work.Dereference (pointed_element t (left_type t i)))) (place_sort p t i (cells_at t i))

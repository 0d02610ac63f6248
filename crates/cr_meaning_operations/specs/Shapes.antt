-- What the run needs of types: their cells, with kinds and guards, and how they are named in operations.
use Rattle.std.specs.Prelude.{ℕ, zero, suc, ◌+◌, ◌*◌, Bool, true, false, ◌||◌, List, [], ◌∷◌, ◌++◌, map, take, length, sum_by, slice_index_or, if◌then◌else◌}
use Rattle.std.specs.List.{flat_map}
use Rattle.cr_ints.specs.declared.kind.IntKind.{IntKind}
use Rattle.cr_ints.specs.declared.kind.IntKind.TheVariants.{Int as IntegerKind}
use Rattle.cr_memory.specs.declared.value.Element.{Element}
use Rattle.cr_memory.specs.declared.value.Scalar.{Scalar}
use Rattle.cr_memory.specs.declared.value.Scalar.TheVariants as scalar
use Rattle.cr_memory.specs.declared.value.Guard.{Guard}
use Rattle.cr_memory.specs.declared.value.Guard.TheVariants.{Free, Constant}
use Rattle.cr_meaning.specs.declared.op.Form.{Form}
use Rattle.cr_meaning.specs.declared.op.Form.TheVariants as form
use Rattle.cr_meaning.specs.declared.op.Access.{Access}
use Rattle.cr_meaning.specs.declared.op.Access.TheVariants as access
use Rattle.cr_meaning.specs.Values.{scalar_name}
use Rattle.cr_syntax.specs.declared.ctype.CType.TheVariants.{Void, Int, Struct}
use Rattle.cr_typed.specs.declared.typed.Typed.{Typed}
use Rattle.cr_typed.specs.Typed.{row_cells}
use Rattle.cr_check_types.specs.Types.{Qualified, plain, pointer, array, types_of, type_at}
use Rattle.cr_check_types.specs.Relations.{are_compatible}
use Rattle.cr_check_types.specs.Layouts.{layout_of}

-- ---- types by rows and nodes

abbrev pub type_of_node : Typed → ℕ → Qualified
type_of_node t node = type_at t.shapes (slice_index_or t.types node 0)

abbrev pub named_type : Typed → ℕ → Qualified
named_type t node = type_at t.shapes (slice_index_or t.named node 0)

-- an array used as a value is a pointer to its first element (6.3.2.1p3)
abbrev pub as_value : Qualified → Qualified
as_value (array n below) = pointer false false below
as_value type = type

abbrev pub value_type : Typed → ℕ → Qualified
value_type t node = as_value (type_of_node t node)

-- the scalars in a type
abbrev pub cells_of : Typed → Qualified → ℕ
cells_of t type = (layout_of t.layouts type).cells

abbrev pub kind_in : Qualified → IntKind
kind_in (plain (Int kind) c v) = kind
kind_in type = IntegerKind

abbrev pub is_pointer : Qualified → Bool
is_pointer (pointer c v below) = true
is_pointer type = false

abbrev pub is_volatile : Qualified → Bool
is_volatile (plain of c v) = v
is_volatile (pointer c v below) = v
is_volatile (array n below) = is_volatile below

-- ---- kinds of scalars

-- pointer types are told apart by what they point to: the least row of a compatible type
abbrev pub first_row : List Qualified → Qualified → ℕ → ℕ
first_row [] type at = at
first_row (other ∷ rest) type at = if are_compatible other type then at else first_row rest type (suc at)

abbrev pub number_of : Typed → Qualified → ℕ
number_of t type = first_row (types_of t.shapes) type 0

-- ---- elements of arrays

-- without qualifiers, also of elements: two types are one for the use of a pointer where they are compatible so
abbrev pub unqualified : Qualified → Qualified
unqualified (plain of c v) = plain of false false
unqualified (pointer c v below) = pointer false false below
unqualified (array n below) = array n (unqualified below)

-- what names a type that objects have: pointers, structures and arrays take turns behind the integer types. No other is followed.
abbrev pub name_in : Typed → Qualified → ℕ
name_in t (plain (Int kind) c v) = scalar_name (scalar.Int kind)
name_in t (plain (Struct node) c v) = 13 + 3 * node
name_in t (plain other c v) = 0
name_in t (pointer c v below) = scalar_name (scalar.Pointer (number_of t below))
name_in t (array n below) = 14 + 3 * first_row (map unqualified (types_of t.shapes)) (array n (unqualified below)) 0

abbrev pub as_element : Typed → Qualified → Element
as_element t type = record { cells = cells_of t type; of = name_in t type }

-- what a pointer points to
abbrev pub pointed_element : Typed → Qualified → Element
pointed_element t (pointer c v below) = as_element t below
pointed_element t type = record { cells = 0; of = 0 }

abbrev pub form_by : Typed → ℕ → Qualified → Form
form_by t row (plain Void c v) = form.Void
form_by t row (plain (Int kind) c v) = form.Number kind
form_by t row (pointer c v below) = form.Pointer (number_of t below)
form_by t row other = form.Cells row

abbrev pub form_of : Typed → ℕ → Form
form_of t row = form_by t row (type_at t.shapes row)

-- how a place of a type is used as a value
abbrev pub access_by : Typed → ℕ → Qualified → Access
access_by t row (plain (Int kind) c v) = access.Scalar (scalar.Int kind) v
access_by t row (plain (Struct node) c v) = access.Cells row
access_by t row (pointer c v below) = access.Scalar (scalar.Pointer (number_of t below)) v
access_by t row (array n below) = access.Array (as_element t below) (cells_of t (array n below))
access_by t row other = access.Unused

abbrev pub access_of : Typed → ℕ → Access
access_of t node = if slice_index_or t.valued node false then access_by t (slice_index_or t.types node 0) (type_of_node t node) else access.Unused

-- ---- the cells of a type

-- what is defined const can't be written (6.7.3p6): a structure's qualifier is one of all its members
abbrev pub guard_of : Bool → Guard
guard_of constant = if constant then Constant else Free

abbrev pub repeated : {X : Type 0} → ℕ → List X → List X
repeated zero items = []
repeated (suc n) items = items ++ repeated n items

-- elements one behind another (6.2.5p20), by the cells of structures
abbrev pub cells_with : (Bool → ℕ → List (Scalar × Guard)) → Typed → Bool → Qualified → List (Scalar × Guard)
cells_with look t constant (plain (Int kind) c v) = (scalar.Int kind, guard_of (constant || c)) ∷ []
cells_with look t constant (plain (Struct node) c v) = look (constant || c) node
cells_with look t constant (pointer c v below) = (scalar.Pointer (number_of t below), guard_of (constant || c)) ∷ []
cells_with look t constant (array n below) = repeated n (cells_with look t constant below)
cells_with look t constant other = []

-- members in order (6.7.2.1p15). Those of a structure have structures of earlier nodes alone, so a number above its own node
-- is enough
abbrev pub structure_cells : ℕ → Typed → Bool → ℕ → List (Scalar × Guard)
structure_cells zero t constant node = []
structure_cells (suc more) t constant node =
    flat_map (λ row. cells_with (structure_cells more t) t constant (type_at t.shapes row)) (slice_index_or t.members node [])

abbrev pub shape_of : Typed → Qualified → List (Scalar × Guard)
shape_of t type = cells_with (structure_cells (length t.nodes) t) t false type

-- ---- members (6.5.2.3)

abbrev pub structure_of : Qualified → ℕ
structure_of (plain (Struct node) c v) = node
structure_of type = 0

abbrev pub members_of : Typed → Qualified → List ℕ
members_of t type = slice_index_or t.members (structure_of type) []

-- the cells before a member
abbrev pub offset_in : Typed → Qualified → ℕ → ℕ
offset_in t type index = sum_by (row_cells t) (take index (members_of t type))

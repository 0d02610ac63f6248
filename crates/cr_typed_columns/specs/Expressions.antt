-- What expressions have in a run: their types, their values where they are constant, which places are used as values, and the members
-- that they name.
use Rattle.std.specs.Prelude.{ℕ, suc, ℤ, ◌==◌, Bool, true, false, ◌&&◌, not, List, [], ◌∷◌, Option, None, Some, slice_get, slice_index_or, if◌then◌else◌}
use Rattle.std.specs.List.{list_any}
use Rattle.cr_syntax.specs.declared.node.Kind.{Kind}
use Rattle.cr_syntax.specs.declared.node.Kind.TheVariants as kind
use Rattle.cr_syntax.specs.declared.node.Node.{Node}
pub use Rattle.cr_syntax.specs.Numbered.{last_if}
use Rattle.cr_scopes_events.specs.Scripts.{kind_at}
use Rattle.cr_check_constants.specs.declared.constant.Constant.{Constant}
use Rattle.cr_check_constants.specs.declared.constant.Constant.TheVariants.{NotConstant, Undefined, Value}
use Rattle.cr_check_types.specs.declared.shape.Shape.{Shape}
use Rattle.cr_check_types.specs.Types.{Qualified, plain, pointer, array, type_at}
use Rattle.cr_check_operands.specs.Values.{Seen, seen_at}
use Rattle.cr_check_operands.specs.Places.{structure_in}
use Rattle.cr_check_expressions.specs.declared.form.Form.{Form}
use Rattle.cr_check_expressions.specs.declared.known.Member.{Member}
use Rattle.cr_check_expressions.specs.Forms.{form_of}
use Rattle.cr_check_expressions.specs.Ruled.{no_fact}
use Rattle.cr_check_expressions.specs.Used.{is_valued}
use Rattle.cr_check_initialisers.specs.declared.lines.Line.{Line}
use Rattle.cr_check_initialisers.specs.declared.lines.Line.TheVariants as line
use Rattle.cr_typed_columns.specs.declared.checked.CheckedColumns.{CheckedColumns}
use Rattle.cr_typed_columns.specs.Reading.{kind_of, part_of, entry_of}

abbrev pub seen_of : CheckedColumns → Option ℕ → Seen
seen_of j node = seen_at j.table.now (entry_of j.facts.now no_fact node)

abbrev pub type_of_node : CheckedColumns → ℕ → Qualified
type_of_node j i = (seen_of j (Some i)).type

-- ---- constants (6.6)

abbrev pub value_in : Constant → Option ℤ
value_in NotConstant = None
value_in Undefined = None
value_in (Value v) = Some v

abbrev pub constant_of : CheckedColumns → ℕ → Option ℤ
constant_of j i = value_in (seen_of j (Some i)).constant

-- ---- places that are used as values (6.3.2.1p2, p3)

abbrev pub is_array : Qualified → Bool
is_array (plain of c v) = false
is_array (pointer c v t) = false
is_array (array n t) = true

-- a string literal initialises an array (6.7.9p14)
abbrev pub fills_array : List Shape → ℕ → Line → Bool
fills_array shapes i (line.Put put) = (put.node == i) && is_array (type_at shapes put.row)
fills_array shapes i (line.Excess list) = false

abbrev pub is_filling : CheckedColumns → ℕ → Bool
is_filling j i = list_any (λ lines. list_any (fills_array j.table.now i) lines) j.lines.now

abbrev pub form_if : Option Kind → Option Form
form_if None = None
form_if (Some k) = Some (form_of k)

abbrev pub is_part : ℕ → Option ℕ → Bool
is_part i None = false
is_part i (Some part) = part == i

-- by the form of the node above it, and by whether it is its first part
abbrev pub valued_of : List Node → CheckedColumns → ℕ → Bool
valued_of nodes j i =
    is_valued (form_if (kind_of nodes (slice_index_or j.above.now i None))) (is_part i (part_of nodes (slice_index_or j.above.now i None) 0)) (seen_of j (Some i))
    && not (is_filling j i)

-- ---- members (6.5.2.3)

-- what the value of an expression points to (6.3.2.1p3)
abbrev pub pointed_structure : Qualified → Option ℕ
pointed_structure (plain of c v) = None
pointed_structure (pointer c v t) = structure_in t
pointed_structure (array n t) = structure_in t

-- the structure that has the member
abbrev pub structure_by : Option Kind → Qualified → Option ℕ
structure_by (Some kind.Member) type = structure_in type
structure_by (Some kind.PointerMember) type = pointed_structure type
structure_by k type = None

-- the first member of a name
abbrev pub number_of_name : ℕ → List Member → ℕ
number_of_name name [] = 0
number_of_name name (member ∷ members) = if member.name == name then 0 else suc (number_of_name name members)

-- its name is the last token
abbrev pub chosen_of : List Node → CheckedColumns → ℕ → ℕ
chosen_of nodes j i =
    number_of_name (slice_index_or j.spellings.now (last_if (slice_get nodes i)) 0)
    (entry_of j.members.now [] (structure_by (kind_at nodes i) (seen_of j (part_of nodes (Some i) 0)).type))

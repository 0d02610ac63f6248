-- What an expression has, by what its parts have (C11 6.5), and a typing of a unit.
use Rattle.std.specs.Prelude.{◌≡◌, ℕ, zero, suc, ◌<◌, ◌==◌, ◌&&◌, ◌||◌, Bool, true, false, not, List, Option, None, Some, length, nat_le, slice_get, slice_index_or, if◌then◌else◌}
use Rattle.cr_check_constants.specs.declared.constant.Constant.TheVariants.{NotConstant, Value}
use Rattle.cr_check_constants.specs.declared.constant.Operand.{Operand}
use Rattle.cr_check_constants.specs.Literals.{integer_of, character_of}
use Rattle.cr_syntax.specs.declared.node.Node.{Node}
use Rattle.cr_syntax.specs.declared.ctype.CType.{CType}
use Rattle.cr_syntax.specs.declared.ctype.CType.TheVariants.{Unknown}
use Rattle.cr_check_types.specs.declared.shape.Shape.{Shape}
use Rattle.cr_check_types.specs.Types.{Qualified, plain, pointer, array, unknown, type_at}
use Rattle.cr_check_types.specs.Relations.{is_complete_at, is_defined}
use Rattle.cr_check_types.specs.Layouts.{layout_of}
use Rattle.cr_check_operands.specs.declared.fact.Fact.{Fact}
use Rattle.cr_check_operands.specs.Values.{Valued, number, address, untyped, Seen, no_type, seen_of, seen_at, place_of, value_in, value_of_seen}
use Rattle.cr_check_operands.specs.Rules.{int_of, integers_value, shifted_value, sum_value, difference_value, order_value, equality_value, logical_value, negated_value, signed_value, conditional_value, comma_value, cast_value, is_null_cast_of, size_value, passable}
use Rattle.cr_check_operands.specs.Places.{assigned, updated, stepped, address_value, dereferenced, subscripted, structure_in, member_of, pointed_member_of, text_of}
use Rattle.cr_check_expressions.specs.declared.form.Form.{Form}
use Rattle.cr_check_expressions.specs.declared.form.Form.TheVariants as form
use Rattle.cr_check_expressions.specs.Known.{Signature, Meaning, an_object, an_enumerator, a_function, a_type, unclear, Source}

-- ---- operands

abbrev pub seen_in : (ℕ → Seen) → Option ℕ → Seen
seen_in at None = no_type
seen_in at (Some part) = at part

-- what a node's part has; and its value
abbrev pub operand : (ℕ → Seen) → List ℕ → ℕ → Seen
operand at parts k = seen_in at (slice_get parts k)

abbrev pub value : (ℕ → Seen) → List ℕ → ℕ → Valued
value at parts k = value_of_seen (operand at parts k)

-- an expression that is no place
abbrev pub given : Valued → Seen
given v = seen_of v false

-- a type is complete at a node
abbrev pub complete : Source → ℕ → Qualified → Bool
complete s i = is_complete_at s.nodes i

-- ---- there is a type

abbrev pub is_word_of_type : CType → Bool
is_word_of_type Unknown = false
is_word_of_type of = true

abbrev pub is_type : Qualified → Bool
is_type (plain of c v) = is_word_of_type of
is_type (pointer c v t) = true
is_type (array n t) = true

abbrev pub is_typed : Seen → Bool
is_typed seen = is_type seen.type

-- ---- names and constants (6.5.1)

-- an identifier names an object or an enumerator (p2)
abbrev pub named_by : Meaning → Seen
named_by (an_object type register) = place_of type register
named_by (an_enumerator value) = given (int_of (Value value))
named_by (a_function signature) = no_type
named_by a_type = no_type
named_by unclear = no_type

abbrev pub literal : Option Operand → Valued
literal (Some operand) = number operand
literal None = untyped

-- ---- members (6.5.2.3)

-- the member that a token names of a structure, which has to be complete at the node
abbrev pub member_in : Source → ℕ → ℕ → Option ℕ → Option Qualified
member_in s i token None = None
member_in s i token (Some structure) = if is_defined s.nodes i structure then s.member structure token else None

-- the structure that a pointer points to
abbrev pub pointed_structure : Valued → Option ℕ
pointed_structure (address t) = structure_in t
pointed_structure other = None

-- ---- calls (6.5.2.2)

-- a call has as many arguments as there are parameters (p2), or no fewer where it may have more
abbrev pub counts_agree : Signature → ℕ → Bool
counts_agree signature count = signature.count == count || (signature.more && nat_le signature.count count)

-- an argument may not be passed to its parameter: both have types, and it isn't assignable (p2)
abbrev pub is_parameter : Option Qualified → Bool
is_parameter None = true
is_parameter (Some type) = is_type type

unfoldable pub is_mispassed : Option Qualified → Seen → Bool
is_mispassed parameter argument =
    is_parameter parameter && (is_typed argument && not (passable parameter (value_of_seen argument)))

-- of the first so many arguments none is so
abbrev pub are_passed : (ℕ → Option Qualified) → (ℕ → Seen) → ℕ → Bool
are_passed parameter argument zero = true
are_passed parameter argument (suc k) = are_passed parameter argument k && not (is_mispassed (parameter k) (argument k))

-- the value of a call of what a name stands for, with so many arguments
unfoldable pub called : Meaning → (ℕ → Seen) → ℕ → Valued
called (a_function signature) argument count =
    if counts_agree signature count && are_passed signature.parameter argument count then value_in signature.gives NotConstant else untyped
called (an_object type register) argument count = untyped
called (an_enumerator value) argument count = untyped
called a_type argument count = untyped
called unclear argument count = untyped

-- ---- `sizeof` (6.5.3.4)

abbrev pub sized : Source → ℕ → Qualified → Valued
sized s i type = size_value (complete s i type) (layout_of s.layouts type).size

-- ---- casts (6.5.4) and `?:` (6.5.15)

abbrev pub converted : Qualified → Valued → Seen
converted type operand = seen_of (cast_value type operand) (is_null_cast_of type operand)

abbrev pub converted_by : Source → (ℕ → Seen) → List ℕ → Seen
converted_by s at parts = converted (s.named (slice_get parts 0)) (value at parts 1)

-- of three operands
abbrev pub chosen : (ℕ → Seen) → Seen
chosen o = given (conditional_value (value_of_seen (o 0)) (o 1).null (o 2).null (value_of_seen (o 1)) (value_of_seen (o 2)))

-- ---- what node i, of a form, has by what the nodes before it have

-- the value of two operands (6.5.5 to 6.5.14, 6.5.16, 6.5.17)
abbrev pub combined : Form → (ℕ → Seen) → Source → ℕ → List ℕ → Valued
combined (form.Integers operator) at s i parts = integers_value operator (value at parts 0) (value at parts 1)
combined form.Sum at s i parts = sum_value (complete s i) (value at parts 0) (value at parts 1)
combined form.Difference at s i parts = difference_value (complete s i) (value at parts 0) (value at parts 1)
combined (form.Shifted operator) at s i parts = shifted_value operator (value at parts 0) (value at parts 1)
combined (form.Order operator) at s i parts = order_value operator (value at parts 0) (value at parts 1)
combined (form.Equality operator) at s i parts = equality_value operator (value at parts 0) (value at parts 1)
combined (form.Logical operator) at s i parts = logical_value operator (value at parts 0) (value at parts 1)
combined form.Assign at s i parts = assigned (complete s i) s.fixed (operand at parts 0) (value at parts 1)
combined (form.Compound moves) at s i parts = updated (complete s i) s.fixed moves (operand at parts 0) (value at parts 1)
combined form.Comma at s i parts = comma_value (value at parts 0) (value at parts 1)
combined f at s i parts = untyped

-- the value of a constant, of a call, and of one operand (6.4.4, 6.5.2.2, 6.5.2.4, 6.5.3)
abbrev pub computed : Form → (ℕ → Seen) → Source → ℕ → Node → Valued
computed form.Integer at s i n = literal (integer_of (s.spelling n.first))
computed form.Character at s i n = literal (character_of (s.spelling n.first))
computed form.Call at s i n = called (s.stands i) (operand at n.parts) (length n.parts)
computed form.StepBehind at s i n = stepped (complete s i) s.fixed (operand at n.parts 0)
computed form.StepBefore at s i n = stepped (complete s i) s.fixed (operand at n.parts 0)
computed form.Address at s i n = address_value (operand at n.parts 0)
computed (form.Signed operator) at s i n = signed_value operator (value at n.parts 0)
computed form.Negated at s i n = negated_value (value at n.parts 0)
computed form.SizeofExpression at s i n = sized s i (operand at n.parts 0).type
computed form.SizeofType at s i n = sized s i (s.named (slice_get n.parts 0))
computed f at s i n = combined f at s i n.parts

-- all of it: a place (6.5.1, 6.5.2.1, 6.5.2.3, 6.5.3.2), what stands in brackets (6.5.1p5), a cast (6.5.4), what `?:` chooses (6.5.15),
-- or a value
abbrev pub ruled : Form → (ℕ → Seen) → Source → ℕ → Node → Seen
ruled form.Name at s i n = named_by (s.stands i)
ruled form.Text at s i n = text_of (s.text i)
ruled form.Group at s i n = operand at n.parts 0
ruled form.Subscript at s i n = subscripted (complete s i) (value at n.parts 0) (value at n.parts 1)
ruled form.Member at s i n = member_of (member_in s i n.last (structure_in (operand at n.parts 0).type)) (operand at n.parts 0)
ruled form.PointerMember at s i n = pointed_member_of (member_in s i n.last (pointed_structure (value at n.parts 0))) (value at n.parts 0)
ruled form.Dereference at s i n = dereferenced (complete s i) (value at n.parts 0)
ruled form.Cast at s i n = converted_by s at n.parts
ruled form.Conditional at s i n = chosen (operand at n.parts)
ruled f at s i n = given (computed f at s i n)

-- ---- facts of rows

-- what is where nothing is known
abbrev pub no_fact : Fact
no_fact = record { row = 0; lvalue = false; register = false; constant = NotConstant; null = false }

abbrev pub fact_at : List Fact → ℕ → Fact
fact_at facts part = slice_index_or facts part no_fact

-- what each node has, by the rows of a table
abbrev pub facts_at : List Shape → List Fact → ℕ → Seen
facts_at shapes facts part = seen_at shapes (fact_at facts part)

abbrev pub operands_at : List Shape → List Fact → List ℕ → ℕ → Seen
operands_at shapes facts parts = operand (facts_at shapes facts) parts

-- the rows are of the table, whose first is that of no type
pub record AreFacts (shapes : List Shape) (facts : List Fact) : Type 0 where
  pub room : 0 < length shapes
  pub first : type_at shapes 0 ≡ unknown
  pub rows : (part : ℕ) → (fact_at facts part).row < length shapes

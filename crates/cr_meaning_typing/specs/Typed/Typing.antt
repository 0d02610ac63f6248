-- Expressions that have a value: of every type but that of a function (C11 6.3.2.1).
use Rattle.std.specs.Prelude.{◌≡◌, ℕ, zero, suc, Bool, true, false, List, Option, None, Some, slice_get}
use Rattle.cr_syntax.specs.declared.node.Node.{Node}
use Rattle.cr_syntax.specs.declared.ctype.CType.{CType}
use Rattle.cr_syntax.specs.declared.ctype.CType.TheVariants.{Void, Int, Struct}
use Rattle.cr_check_types.specs.Types.{Qualified, plain, pointer, array}
use Rattle.cr_check_constants.specs.Literals.{integer_of, character_of}
use Rattle.cr_check_operands.specs.Values.{Seen}
use Rattle.cr_check_operands.specs.Places.{structure_in}
use Rattle.cr_check_expressions.specs.declared.form.Form.{Form}
use Rattle.cr_check_expressions.specs.declared.form.Form.TheVariants as form
use Rattle.cr_check_expressions.specs.Known.{Meaning, an_object, an_enumerator, a_function, a_type, unclear, Source}
use Rattle.cr_check_expressions.specs.Ruled.{operand, is_parameter, member_in, pointed_structure, value}

abbrev pub is_worth : CType → Bool
is_worth (Int kind) = true
is_worth Void = true
is_worth (Struct node) = true
is_worth other = false

abbrev pub has_value : Qualified → Bool
has_value (plain of c v) = is_worth of
has_value (pointer c v t) = true
has_value (array n t) = true

-- what a name stands for is known, and has types
abbrev pub IsClear : Meaning → Type 0
IsClear (an_object type register) = has_value type ≡ true
IsClear (an_enumerator value) = Unit {0}
IsClear (a_function signature) = (has_value signature.gives ≡ true) × ((k : ℕ) → is_parameter (signature.parameter k) ≡ true)
IsClear a_type = Unit {0}
IsClear unclear = ⊥

abbrev pub IsThere : {A : Type 0} → Option A → Type 0
IsThere None = ⊥
IsThere (Some x) = Unit {0}

abbrev pub IsFound : Option Qualified → Type 0
IsFound None = Unit {0}
IsFound (Some type) = has_value type ≡ true

-- what a node reads beside its operands is there
abbrev pub IsRead : Form → (ℕ → Seen) → Source → ℕ → Node → Type 0
IsRead form.Name at s i n = IsClear (s.stands i)
IsRead form.Call at s i n = IsClear (s.stands i)
IsRead form.Integer at s i n = IsThere (integer_of (s.spelling n.first))
IsRead form.Character at s i n = IsThere (character_of (s.spelling n.first))
IsRead form.Cast at s i n = has_value (s.named (slice_get n.parts 0)) ≡ true
IsRead form.SizeofType at s i n = has_value (s.named (slice_get n.parts 0)) ≡ true
IsRead form.Member at s i n = IsFound (member_in s i n.last (structure_in (operand at n.parts 0).type))
IsRead form.PointerMember at s i n = IsFound (member_in s i n.last (pointed_structure (value at n.parts 0)))
IsRead form.Other at s i n = ⊥
IsRead f at s i n = Unit {0}

-- the operands that a rule reads, by their places
abbrev pub is_asked : Form → ℕ → Bool
is_asked form.Name k = false
is_asked form.Integer k = false
is_asked form.Character k = false
is_asked form.Text k = false
is_asked form.SizeofType k = false
is_asked form.Call k = false
is_asked form.Other k = false
is_asked form.Cast (suc zero) = true
is_asked form.Cast k = false
is_asked form.Conditional (suc (suc zero)) = true
is_asked form.Group (suc k) = false
is_asked form.Member (suc k) = false
is_asked form.PointerMember (suc k) = false
is_asked form.StepBehind (suc k) = false
is_asked form.StepBefore (suc k) = false
is_asked form.Address (suc k) = false
is_asked form.Dereference (suc k) = false
is_asked (form.Signed operator) (suc k) = false
is_asked form.Negated (suc k) = false
is_asked form.SizeofExpression (suc k) = false
is_asked f (suc (suc k)) = false
is_asked f k = true

-- these have values
abbrev pub Worth : (ℕ → Seen) → List ℕ → ℕ → Type 0
Worth at parts k = has_value (operand at parts k).type ≡ true

abbrev pub AreWorth : Form → (ℕ → Seen) → List ℕ → Type 0
AreWorth f at parts = (k : ℕ) → is_asked f k ≡ true → Worth at parts k

abbrev pub is_expression : Form → Bool
is_expression form.Other = false
is_expression f = true

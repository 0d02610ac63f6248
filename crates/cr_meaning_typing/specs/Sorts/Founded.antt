-- What the expressions of a typed unit rest on, and the law: then each of their operations is good, in one table of sorts.
use Rattle.std.specs.Prelude.{◌≡◌, ℕ, ℤ, ◌<◌, ◌≤◌, ◌^◌, ◌==◌, Bool, true, false, not, ◌&&◌, Option, None, Some, [], length, slice_get, slice_index_or}
use Rattle.cr_ints.specs.IntKind.{Represents}
use Rattle.cr_syntax.specs.declared.node.Kind.{Kind}
use Rattle.cr_syntax.specs.declared.node.Kind.TheVariants as kind
use Rattle.cr_syntax.specs.declared.node.Node.{Node}
use Rattle.cr_check_constants.specs.declared.constant.Constant.TheVariants.{Value}
use Rattle.cr_check_constants.specs.declared.constant.Operand.{Operand}
use Rattle.cr_check_operands.specs.Values.{number as a_number}
use Rattle.cr_check_operands.specs.Places.{member_of}
use Rattle.cr_check_types.specs.Types.{type_at}
use Rattle.cr_check_expressions.specs.declared.form.Form.{Form}
use Rattle.cr_check_expressions.specs.declared.form.Form.TheVariants as form
use Rattle.cr_check_expressions.specs.Forms.{form_of}
use Rattle.cr_check_expressions.specs.Known.{Signature, a_function}
use Rattle.cr_check_expressions.specs.Ruled.{given, ruled}
use Rattle.cr_check_expressions.specs.Used.{takes_place}
use Rattle.cr_typed.specs.declared.typed.Typed.{Typed}
use Rattle.cr_meaning.specs.World.{Program}
use Rattle.cr_meaning.specs.declared.run.Limits.{Limits}
use Rattle.cr_meaning_operations.specs.Shapes.{type_of_node, named_type}
use Rattle.cr_meaning_operations.specs.Operations.{kind_at, parts_at, entity_of, chosen_row, pointed, left_type, callee_of, op_of, program_of}
use Rattle.cr_meaning_typing.specs.Typed.Good.{IsGood}
use Rattle.cr_meaning_typing.specs.Typed.Typing.{has_value, is_asked, is_expression}
use Rattle.cr_meaning_typing.specs.Typed.Columns.{AreColumns}
use Rattle.cr_meaning_typing.specs.Typed.Placed.{IsNamed}
use Rattle.cr_meaning_typing.specs.Expressions.Places.{HasCells, IsMemberIn, AreAmong}
use Rattle.cr_meaning_typing.specs.Calls.Calls.{IsGiven, IsCalled}
use Rattle.cr_meaning_typing.specs.Sorts.Table.{Judgement, expression_sort, sorts_in}

-- ---- what the check gives

-- the columns are what was judged; each expression has what its rule makes of its operands, and a value
pub record AreJudged (t : Typed) (j : Judgement) : Type 0 where
  pub columns : AreColumns t j.at
  pub ruled : (i : ℕ) (n : Node) → slice_get t.nodes i ≡ Some n → j.at i ≡ ruled (form_of n.kind) j.at (j.source i) i n
  pub worth : (i : ℕ) → is_expression (form_of (kind_at t i)) ≡ true → has_value (j.at i).type ≡ true
  pub casts : (i : ℕ) (n : Node) → slice_get t.nodes i ≡ Some n → n.kind ≡ kind.Cast → (j.source i).named (slice_get n.parts 0) ≡ named_type t i
  pub texts : (i k : ℕ) → (j.source i).text k ≡ length (slice_index_or t.texts k [])

-- ---- what the grammar gives

-- so many parts has a node of a form, where all have as many
abbrev pub parts_of : Form → Option ℕ
parts_of form.Name = Some 0
parts_of form.Integer = Some 0
parts_of form.Character = Some 0
parts_of form.Text = Some 0
parts_of form.Group = Some 1
parts_of form.Member = Some 1
parts_of form.PointerMember = Some 1
parts_of form.StepBehind = Some 1
parts_of form.StepBefore = Some 1
parts_of form.Address = Some 1
parts_of form.Dereference = Some 1
parts_of (form.Signed operator) = Some 1
parts_of form.Negated = Some 1
parts_of form.SizeofExpression = Some 1
parts_of form.SizeofType = Some 1
parts_of form.Conditional = Some 3
parts_of form.Call = None
parts_of form.Other = None
parts_of f = Some 2

-- part k is an expression below its node, used as a value but where the node takes its place (6.3.2.1p2, p3)
pub record IsOperand (t : Typed) (j : Judgement) (i k a : ℕ) : Type 0 where
  pub is : slice_get (parts_at t i) k ≡ Some a
  pub below : a < i
  pub expression : is_expression (form_of (kind_at t a)) ≡ true
  pub valued : slice_index_or t.valued a false ≡ ((j.at a).lvalue && not ((k == 0) && takes_place (form_of (kind_at t i))))
  pub unfilled : j.fills a ≡ false

pub record AreLaidOut (t : Typed) (j : Judgement) : Type 0 where
  pub counts : (i m : ℕ) → parts_of (form_of (kind_at t i)) ≡ Some m → length (parts_at t i) ≡ m
  pub operands : (i k : ℕ) → is_asked (form_of (kind_at t i)) k ≡ true → (a : ℕ) × IsOperand t j i k a
  pub arguments : (i k a : ℕ) → kind_at t i ≡ kind.Call → slice_get (parts_at t i) k ≡ Some a → IsOperand t j i k a
  -- only a literal fills an array, and it isn't used as a value there
  pub filled : (i : ℕ) → j.fills i ≡ true → (kind_at t i ≡ kind.Text) × (slice_index_or t.valued i false ≡ false)

-- ---- what is evaluated

-- of which parts an expression has the values (6.5): not of the operand of `sizeof` (6.5.3.4p2); `&` is said of by itself
abbrev pub is_evaluated : Form → ℕ → Bool
is_evaluated form.SizeofExpression k = false
is_evaluated form.Address k = false
is_evaluated form.Call k = true
is_evaluated f k = is_asked f k

-- `&*E` evaluates E, and `&E1[E2]` both (6.5.3.2p3)
abbrev pub is_followed : Kind → Bool
is_followed kind.Dereference = true
is_followed kind.Subscript = true
is_followed k = false

pub record AreReached (t : Typed) (j : Judgement) : Type 0 where
  pub there : (i : ℕ) → j.runs i ≡ true → (n : Node) × (slice_get t.nodes i ≡ Some n)
  pub operands : (i k a : ℕ) → j.runs i ≡ true → is_evaluated (form_of (kind_at t i)) k ≡ true → slice_get (parts_at t i) k ≡ Some a → j.runs a ≡ true
  pub addressed : (i a : ℕ) → j.runs i ≡ true → kind_at t i ≡ kind.AddressOf → slice_get (parts_at t i) 0 ≡ Some a → is_followed (kind_at t a) ≡ false → j.runs a ≡ true
  pub followed : (i a k b : ℕ) → j.runs i ≡ true → kind_at t i ≡ kind.AddressOf → slice_get (parts_at t i) 0 ≡ Some a → is_followed (kind_at t a) ≡ true
      → slice_get (parts_at t a) k ≡ Some b → j.runs b ≡ true

-- ---- what declarations and layouts give: premises that are shown of no unit here

-- of names and literals that a run may reach: their objects are there, with cells, and their node sees them
pub record AreNamed (p : Program) (t : Typed) (j : Judgement) (sees : ℕ → ℕ → Bool) : Type 0 where
  pub objects : (i : ℕ) (n : Node) → j.runs i ≡ true → slice_get t.nodes i ≡ Some n → n.kind ≡ kind.Identifier → (j.at i).lvalue ≡ true → IsNamed p t i × (sees i (entity_of t i) ≡ true)
  pub literals : (i : ℕ) → j.runs i ≡ true → kind_at t i ≡ kind.Text → (1 ≤ length (slice_index_or t.texts i [])) × (sees i i ≡ true)

-- the member that a node names is found, and lies within its structure
pub record IsFound (t : Typed) (limits : Limits) (j : Judgement) (i a : ℕ) : Type 0 where
  pub is : j.at i ≡ member_of (Some (type_at t.shapes (chosen_row t i (type_of_node t a)))) (j.at a)
  pub within : IsMemberIn t i (type_of_node t a)
  pub structure : (j.at a).lvalue ≡ false → AreAmong t limits i a

-- of places that a run may reach: they have whole cells, members lie within their structures
pub record ArePlaced (t : Typed) (limits : Limits) (j : Judgement) : Type 0 where
  pub cells : (i : ℕ) → j.runs i ≡ true → is_followed (kind_at t i) ≡ true → HasCells t i
  pub members : (i a : ℕ) → j.runs i ≡ true → kind_at t i ≡ kind.Member → slice_get (parts_at t i) 0 ≡ Some a → IsFound t limits j i a
  pub pointed_members : (i : ℕ) → j.runs i ≡ true → kind_at t i ≡ kind.PointerMember → IsMemberIn t i (pointed (left_type t i))

-- what gives a value that is known without a run: constants, enumerators and `sizeof`
abbrev pub is_known : Kind → Bool
is_known kind.Identifier = true
is_known kind.Integer = true
is_known kind.Character = true
is_known kind.SizeofExpression = true
is_known kind.SizeofType = true
is_known k = false

-- this value lies in the range of its kind (6.4.4p2, 6.7.2.2p2)
abbrev pub AreInRange : Typed → Judgement → Type 0
AreInRange t j = (i : ℕ) (x : Operand) (v : ℤ) → j.runs i ≡ true → is_known (kind_at t i) ≡ true → j.at i ≡ given (a_number x) → x.constant ≡ Value v → Represents x.kind v

-- what a call calls is a function of the program, defined as it is called, or one of the library's
pub record IsCall (p : Program) (t : Typed) (j : Judgement) (i : ℕ) : Type 0 where
  pub signature : Signature
  pub stands : (j.source i).stands i ≡ a_function signature
  pub gives : IsGiven signature.gives
  pub called : IsCalled p t (sorts_in p t j) signature (callee_of t i)

abbrev pub AreCalls : Program → Typed → Judgement → Type 0
AreCalls p t j = (i : ℕ) → j.runs i ≡ true → kind_at t i ≡ kind.Call → IsCall p t j i

-- all of it
pub record AreFounded (t : Typed) (limits : Limits) (j : Judgement) (sees : ℕ → ℕ → Bool) : Type 0 where
  pub judged : AreJudged t j
  pub laid : AreLaidOut t j
  pub reached : AreReached t j
  pub named : AreNamed (program_of t limits) t j sees
  pub placed : ArePlaced t limits j
  pub ranged : AreInRange t j
  pub calls : AreCalls (program_of t limits) t j

-- ---- the law

-- each expression that a run may reach is good, by its constraint and in this one table
abbrev pub ExpressionsAreGood : Type 0
ExpressionsAreGood = (t : Typed) (limits : Limits) (j : Judgement) (sees : ℕ → ℕ → Bool) → AreFounded t limits j sees → limits.output < 2 ^ 31
    → (i : ℕ) → j.runs i ≡ true → is_expression (form_of (kind_at t i)) ≡ true
    → IsGood (program_of t limits) (sorts_in (program_of t limits) t j) (sees i) (op_of t i) (expression_sort (program_of t limits) t j i)

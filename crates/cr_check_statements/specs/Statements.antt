-- Which constraint a statement breaks (C11 6.8).
use Rattle.std.specs.Prelude.{◌≡◌, ℕ, ◌-◌, ◌&&◌, ◌||◌, Bool, true, false, not, List, [], ◌∷◌, Option, None, Some, slice_get}
use Rattle.std.specs.Option.{is_some}
use Rattle.cr_syntax.specs.declared.node.Kind.{Kind}
use Rattle.cr_syntax.specs.declared.node.Kind.TheVariants as kind
use Rattle.cr_syntax.specs.declared.node.Node.{Node}
use Rattle.cr_syntax_nodes.specs.Loops.{clauses_of}
use Rattle.cr_check_constants.specs.declared.constant.Constant.{Constant}
use Rattle.cr_check_constants.specs.declared.constant.Constant.TheVariants as constant
use Rattle.cr_check_types.specs.Types.{Qualified}
use Rattle.cr_check_operands.specs.Values.{Valued, number, address, structure, whole, valueless, untyped, Seen, value_in, value_of_seen}
use Rattle.cr_check_operands.specs.Rules.{is_scalar_value, is_integer_value, assignable}
use Rattle.cr_check_expressions.specs.declared.least.Break.{Break}
use Rattle.cr_check_expressions.specs.Ruled.{operand, seen_in, is_type, is_typed}
use Rattle.cr_check_expressions.specs.Breaks.{fault, IsAmong}
use Rattle.cr_check_statements.specs.Setting.{Scene}

-- ---- controlling expressions (6.8.4.1p1, 6.8.4.2p1, 6.8.5p2) and the labels of a `switch` (6.8.4.2p3)

abbrev pub is_no_scalar : Seen → Bool
is_no_scalar seen = is_typed seen && not (is_scalar_value (value_of_seen seen))

abbrev pub is_no_integer : Seen → Bool
is_no_integer seen = is_typed seen && not (is_integer_value (value_of_seen seen))

-- an integer constant expression with a value (6.6p4)
abbrev pub has_value : Constant → Bool
has_value (constant.Value value) = true
has_value constant.Undefined = false
has_value constant.NotConstant = false

abbrev pub is_constant : Valued → Bool
is_constant (number operand) = has_value operand.constant
is_constant (address t) = false
is_constant (structure n) = false
is_constant (whole t) = false
is_constant valueless = false
is_constant untyped = false

abbrev pub is_no_constant : Seen → Bool
is_no_constant seen = is_typed seen && not (is_constant (value_of_seen seen))

-- ---- `return` (6.8.6.4p1): an assignable expression, or none where the function is void

abbrev pub is_valueless : Valued → Bool
is_valueless valueless = true
is_valueless (number operand) = false
is_valueless (address t) = false
is_valueless (structure n) = false
is_valueless (whole t) = false
is_valueless untyped = false

abbrev pub gives_badly : Qualified → Seen → Bool
gives_badly type seen = is_type type && (is_typed seen && not (assignable (value_in type constant.NotConstant) (value_of_seen seen)))

abbrev pub returns_badly : Qualified → (ℕ → Seen) → Option ℕ → Bool
returns_badly type at None = is_type type && not (is_valueless (value_in type constant.NotConstant))
returns_badly type at (Some part) = gives_badly type (at part)

-- ---- the table

abbrev pub faults_in : Kind → Scene → ℕ → Node → List (Option Break)
faults_in kind.If s i n = fault 38 n.first (is_no_scalar (operand s.at n.parts 0)) ∷ []
faults_in kind.While s i n = fault 38 n.first (is_no_scalar (operand s.at n.parts 0)) ∷ []
faults_in kind.Do s i n = fault 38 n.first (is_no_scalar (operand s.at n.parts 1)) ∷ []
faults_in kind.For s i n = fault 38 n.first (is_no_scalar (seen_in s.at (clauses_of s.nodes n).test)) ∷ []
faults_in kind.Switch s i n = fault 38 n.first (is_no_integer (operand s.at n.parts 0)) ∷ []
faults_in kind.Case s i n = fault 38 n.first (is_no_constant (operand s.at n.parts 0) || s.again i) ∷ []
faults_in kind.Default s i n = fault 38 n.first (s.again i) ∷ []
faults_in kind.Break s i n = fault 38 n.first (not (is_some (s.around i).breakable)) ∷ []
faults_in kind.Continue s i n = fault 38 n.first (not (is_some (s.around i).iteration)) ∷ []
faults_in kind.Return s i n = fault 39 n.first (returns_badly (s.gives (s.around i).function) s.at (slice_get n.parts 0)) ∷ []
faults_in kind.Goto s i n = fault 42 (n.last - 1) (not (is_some (s.label i))) ∷ []
faults_in kind.Label s i n = fault 43 n.first (s.again i) ∷ []
faults_in k s i n = []

abbrev pub faults_if : Option Node → Scene → ℕ → List (Option Break)
faults_if None s i = []
faults_if (Some n) s i = faults_in n.kind s i n

-- what node i breaks
abbrev pub faults_of : Scene → ℕ → List (Option Break)
faults_of s i = faults_if (slice_get s.nodes i) s i

-- a node breaks it
pub record IsBroken (s : Scene) (b : Break) : Type 0 where
  pub node : ℕ
  pub among : IsAmong (faults_of s node) b

-- A whole unit: what its expressions have, as columns.
use Rattle.std.specs.Prelude.{◌≡◌, ℕ, ◌<◌, ◌+◌, true, List, Some, length, slice_get}
use Rattle.cr_syntax.specs.declared.node.Node.{Node}
use Rattle.cr_syntax.specs.declared.unit.Unit as source
use Rattle.cr_check_types.specs.declared.shape.Shape.{Shape}
use Rattle.cr_check_types.specs.Types.{type_at}
use Rattle.cr_scopes.specs.declared.names.Names.{Names}
use Rattle.cr_check_expressions.specs.declared.least.Break.{Break}
use Rattle.cr_check_expressions.specs.Forms.{form_of}
use Rattle.cr_check_expressions.specs.Ruled.{facts_at}
use Rattle.cr_check_declarations.specs.declared.tree.Tree.{Tree}
use Rattle.cr_check_unit.specs.declared.typing.Typing.{Typing}
use Rattle.cr_check_unit.specs.Typing.{cut, source_in, IsTyping}
use Rattle.cr_check_unit.specs.Breaks.{IsBroken}
use Rattle.cr_check.specs.declared.checked.Checked.{Checked}
use Rattle.cr_typed.specs.declared.typed.Typed.{Typed}
use Rattle.cr_typed_unit.specs.Typed.{IsTypedBy}
use Rattle.cr_meaning_operations.specs.Shapes.{type_of_node}
use Rattle.cr_meaning_operations.specs.Operations.{op_of, program_of, unit_op}
use Rattle.cr_meaning.specs.declared.run.Limits.{Limits}
use Rattle.cr_meaning_typing.specs.Typed.Typing.{has_value, is_expression, is_asked, IsRead}

-- a part that a rule reads is an expression, below its node
pub record IsOperand (nodes : List Node) (i : ℕ) (parts : List ℕ) (k : ℕ) : Type 0 where
  pub number : ℕ
  pub node : Node
  pub is : slice_get parts k ≡ Some number
  pub below : number < i
  pub at : slice_get nodes number ≡ Some node
  pub expression : is_expression (form_of node.kind) ≡ true

-- what the grammar gives of each expression, and what declarations and tokens give
pub record AreReadable (u : Tree) (texts : List (List ℕ)) (shapes : List Shape) (t : Typing) : Type 0 where
  pub operands : (i : ℕ) (n : Node) → slice_get u.nodes.now i ≡ Some n → (k : ℕ) → is_asked (form_of n.kind) k ≡ true → IsOperand u.nodes.now i n.parts k
  pub reads : (i : ℕ) (n : Node) → slice_get u.nodes.now i ≡ Some n → is_expression (form_of n.kind) ≡ true
      → IsRead (form_of n.kind) (facts_at shapes (cut i t).facts) (source_in (type_at shapes) u texts (cut i t)) i n

abbrev pub AllHaveValues : Tree → List Shape → Typing → Type 0
AllHaveValues u shapes t = (i : ℕ) (n : Node) → slice_get u.nodes.now i ≡ Some n → is_expression (form_of n.kind) ≡ true
    → has_value (facts_at shapes t.facts i).type ≡ true

-- so each expression of a unit that breaks nothing has a value
abbrev pub UnitsAreTyped : Type 0
UnitsAreTyped = (u : Tree) (texts : List (List ℕ)) (shapes : List Shape) (t : Typing) → IsTyping u texts shapes t → ((b : Break) → IsBroken u texts shapes t b → ⊥)
    → AreReadable u texts shapes t → AllHaveValues u shapes t

-- the columns of a typed unit have these types
abbrev pub ColumnsAreJudged : Type 0
ColumnsAreJudged = (file : List ℕ) (unit : source.Unit) (names : Names) (checked : Checked) (typed : Typed) → IsTypedBy file unit names checked typed
    → (i : ℕ) → i < length typed.nodes → type_of_node typed i ≡ (facts_at checked.table checked.whole.typing.facts i).type

-- the operation of each node, and the program's own behind them
pub record AreOps (t : Typed) (limits : Limits) : Type 0 where
  pub each : (i : ℕ) (n : Node) → slice_get t.nodes i ≡ Some n → slice_get (program_of t limits).ops i ≡ Some (op_of t i)
  pub root : slice_get (program_of t limits).ops (length t.nodes) ≡ Some (unit_op t)
  pub count : length (program_of t limits).ops ≡ length t.nodes + 1

abbrev pub OpsAreThere : Type 0
OpsAreThere = (t : Typed) (limits : Limits) → AreOps t limits

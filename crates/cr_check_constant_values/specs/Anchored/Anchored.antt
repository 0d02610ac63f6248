-- What is made of constants, or of an address that is constant (C11 6.6p6, p9), and the initialisers that stand in a node (6.7.9).
use Rattle.std.specs.Prelude.{◌≡◌, ℕ, zero, suc, ◌||◌, Bool, true, false, List, Some, slice_get}
use Rattle.cr_syntax.specs.declared.node.Kind.TheVariants as kind
use Rattle.cr_syntax.specs.declared.node.Node.{Node}
use Rattle.cr_check_constants.specs.declared.constant.Constant.{Constant}
use Rattle.cr_check_constants.specs.declared.constant.Constant.TheVariants.{NotConstant, Undefined, Value}
use Rattle.cr_check_types.specs.declared.shape.Shape.{Shape}
use Rattle.cr_check_expressions.specs.declared.form.Form.{Form}
use Rattle.cr_check_expressions.specs.declared.form.Form.TheVariants as form
use Rattle.cr_check_expressions.specs.Ruled.{facts_at}
use Rattle.cr_check_initialisers.specs.declared.anchor.Anchor.{Anchor}
use Rattle.cr_check_initialisers.specs.declared.anchor.Anchor.TheVariants.{Moving, Place, Address}
use Rattle.cr_check_initialised.specs.Anchors.{anchor_at}
use Rattle.cr_check_unit.specs.declared.typing.Typing.{Typing}

-- all its operands are integer constant expressions, also where its value isn't defined
abbrev pub is_made : Constant → Bool
is_made (Value value) = true
is_made Undefined = true
is_made NotConstant = false

-- a place whose address is constant, or such an address
abbrev pub is_placed : Anchor → Bool
is_placed Place = true
is_placed Address = true
is_placed Moving = false

abbrev pub is_anchored : List Shape → Typing → ℕ → Bool
is_anchored shapes t i = is_made (facts_at shapes t.facts i).constant || is_placed (anchor_at t.anchors i)

-- the operands that are evaluated with an expression: those of `sizeof` aren't (6.5.3.4p2), and a cast has its type first (6.5.4)
abbrev pub is_operand : Form → ℕ → Bool
is_operand form.Name k = false
is_operand form.Integer k = false
is_operand form.Character k = false
is_operand form.Text k = false
is_operand form.SizeofExpression k = false
is_operand form.SizeofType k = false
is_operand form.Other k = false
is_operand form.Call k = true
is_operand form.Cast (suc zero) = true
is_operand form.Cast k = false
is_operand form.Conditional (suc (suc zero)) = true
is_operand form.Group (suc k) = false
is_operand form.Member (suc k) = false
is_operand form.PointerMember (suc k) = false
is_operand form.StepBehind (suc k) = false
is_operand form.StepBefore (suc k) = false
is_operand form.Address (suc k) = false
is_operand form.Dereference (suc k) = false
is_operand (form.Signed operator) (suc k) = false
is_operand form.Negated (suc k) = false
is_operand f (suc (suc k)) = false
is_operand f k = true

-- an initialiser is the node itself, or one of those in a list in braces that is the node
pub data Initialises (nodes : List Node) (i : ℕ) : ℕ → Type 0 where
  itself : Initialises nodes i i
  listed : {part list : ℕ} (k : ℕ) (n : Node) → slice_get nodes list ≡ Some n → n.kind ≡ kind.InitializerList → slice_get n.parts k ≡ Some part → Initialises nodes i part
      → Initialises nodes i list

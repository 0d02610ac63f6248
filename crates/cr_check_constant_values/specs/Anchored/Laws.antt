-- Laws of the initialisers of objects of static duration.
use Rattle.std.specs.Prelude.{◌≡◌, ℕ, ◌<◌, true, false, List, Some, slice_get}
use Rattle.cr_syntax.specs.declared.node.Node.{Node}
use Rattle.cr_check_types.specs.declared.shape.Shape.{Shape}
use Rattle.cr_check_expressions.specs.declared.least.Break.{Break}
use Rattle.cr_check_expressions.specs.Forms.{form_of}
use Rattle.cr_check_expressions.specs.Ruled.{is_typed, facts_at}
use Rattle.cr_check_declarations.specs.declared.tree.Tree.{Tree}
use Rattle.cr_check_initialisers.specs.Known.{is_list_if}
use Rattle.cr_check_initialised.specs.Durations.{is_static}
use Rattle.cr_check_initialised.specs.Initialised.{Planned, planned_by}
use Rattle.cr_check_unit.specs.declared.typing.Typing.{Typing}
use Rattle.cr_check_unit.specs.Typing.{cut, before_in, object_in, IsTyping}
use Rattle.cr_check_unit.specs.Breaks.{IsBroken}
use Rattle.cr_check_constant_values.specs.Anchored.Anchored.{is_anchored, is_operand, Initialises}

-- what is made of constants, or of a constant address, has operands that are
abbrev pub OperandsAreAnchored : Type 0
OperandsAreAnchored = (u : Tree) (texts : List (List ℕ)) (shapes : List Shape) (t : Typing) → IsTyping u texts shapes t
    → (i k part : ℕ) (n : Node) → slice_get u.nodes.now i ≡ Some n → slice_get n.parts k ≡ Some part → part < i → is_operand (form_of n.kind) k ≡ true
    → is_anchored shapes t i ≡ true → is_anchored shapes t part ≡ true

-- what initialises an object of static duration is so, where a unit breaks no constraint (K12)
abbrev pub InitialisersAreAnchored : Type 0
InitialisersAreAnchored = (u : Tree) (texts : List (List ℕ)) (shapes : List Shape) (t : Typing) → IsTyping u texts shapes t → ((b : Break) → IsBroken u texts shapes t b → ⊥)
    → ((i k part : ℕ) (n : Node) → slice_get u.nodes.now i ≡ Some n → slice_get n.parts k ≡ Some part → part < i)
    → (d i : ℕ) (q : Planned) (n : Node) → slice_get u.nodes.now d ≡ Some n
    → planned_by n.kind (cut d t).layouts (object_in shapes (cut d t) n) n.parts ≡ Some q
    → is_static u (before_in shapes (cut d t)).specified (Some d) ≡ true
    → ((j : ℕ) → Initialises u.nodes.now j q.initialiser → is_list_if (slice_get u.nodes.now j) ≡ false → is_typed (facts_at shapes t.facts j) ≡ true)
    → Initialises u.nodes.now i q.initialiser → is_list_if (slice_get u.nodes.now i) ≡ false → is_anchored shapes t i ≡ true

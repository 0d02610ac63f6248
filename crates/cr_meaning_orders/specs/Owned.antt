-- Declarators, and the blocks that enter their objects (C11 6.2.4p6, 6.8.2p2): declarations stand in blocks and in the first clause of a `for`
-- (6.8.5.3), and in no expression.
use Rattle.std.specs.Prelude.{◌≡◌, ℕ, suc, Bool, true, false, Some, List, [], slice_get, ◌⊎◌}
use Rattle.cr_meaning.specs.World.{Program}
use Rattle.cr_meaning.specs.declared.op.Op.{Op}
use Rattle.cr_meaning.specs.declared.op.Line.{Line}
use Rattle.cr_meaning.specs.declared.op.Work.{Work}
use Rattle.cr_meaning.specs.declared.op.Work.TheVariants as work
use Rattle.cr_meaning_soundness.specs.Sorts.{IsAmong}
use Rattle.cr_meaning_soundness.specs.Scopes.{IsPart, is_open}

-- the objects that a block enters, or a statement that is one
abbrev pub objects_of : Work → List ℕ
objects_of (work.For objects first control step rest) = objects
objects_of (work.Switch kind rest objects cases other labels) = objects
objects_of (work.Block objects labels) = objects
objects_of other = []

-- declarators of the nodes' own blocks may stand in their parts: these are statements, and the whole program
abbrev pub hands_on : Work → Bool
hands_on work.If = true
hands_on work.While = true
hands_on work.Do = true
hands_on (work.For objects first control step rest) = true
hands_on (work.Switch kind rest objects cases other labels) = true
hands_on (work.Block objects labels) = true
hands_on work.Labelled = true
hands_on work.Declaration = true
hands_on (work.Program objects parameters strings rest) = true
hands_on other = false

-- which objects' declarators stand in a node, bodies of its calls not counted: a declarator's own; and a part has those of its node or
-- of the block that its node enters for it. So none stand in an operand or in the body of a function
pub record AreOwned (p : Program) (owns : ℕ → ℕ → Bool) : Type 0 where
  pub declares : (node declared : ℕ) (op : Op) → slice_get p.ops node ≡ Some op → op.work ≡ work.Declare declared → owns node declared ≡ true
  pub initialises : (node declared : ℕ) (lines : List Line) (op : Op) → slice_get p.ops node ≡ Some op → op.work ≡ work.Initialise declared lines → owns node declared ≡ true
  pub parts : (node : ℕ) (op : Op) (k part declared : ℕ) → slice_get p.ops node ≡ Some op → IsPart op.work op.parts k part → owns part declared ≡ true
      → ((hands_on op.work ≡ true) × (owns node declared ≡ true)) ⊎ ((is_open op.work op.parts (suc k) ≡ true) × IsAmong declared (objects_of op.work))

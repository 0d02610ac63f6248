-- What a statement evaluates by itself, where nothing is skipped.
use Rattle.std.specs.Prelude.{◌≡◌, ◌<◌, ◌↔◌, ℕ, Bool, true, false, Option, Some, None, List, [], ◌∷◌, ◌++◌, drop, length, slice_get, slice_index_or, take}
use Rattle.std.specs.List.{list_all}
use Rattle.cr_meaning.specs.World.{Program}
use Rattle.cr_meaning.specs.declared.op.Op.{Op}
use Rattle.cr_meaning.specs.declared.op.Work.{Work}
use Rattle.cr_meaning.specs.declared.op.Work.TheVariants as work

abbrev pub given : Option ℕ → List ℕ
given None = []
given (Some node) = node ∷ []

-- Of `if`, `switch`, `while` and `do` the controlling expression, of `for` the first two clauses, of a block nothing (C11 6.8.2, 6.8.4, 6.8.5); of all
-- others the operands, which stand behind a label for its statement. What stands below `sizeof`, and `[]` and `*` directly below `&`, is none
-- (6.5.3.2p3, 6.5.3.4p2).
abbrev pub own_by : Work → List ℕ → List ℕ
own_by work.If parts = take 1 parts
own_by work.While parts = take 1 parts
own_by (work.Switch kind body objects cases other labels) parts = take 1 parts
own_by work.Do parts = drop 1 parts
own_by (work.For objects first control step body) parts = given first ++ given control
own_by (work.Block objects labels) parts = []
own_by other parts = parts

abbrev pub own_of : Op → List ℕ
own_of op = own_by op.work op.parts

-- a node's own evaluation, where nothing is skipped, has that of another node
pub data IsOwn (p : Program) : ℕ → ℕ → Type 0 where
  itself : {node own : ℕ} → own ≡ node → IsOwn p node own
  within : (place : ℕ) {node part own : ℕ} {op : Op} → slice_get p.ops node ≡ Some op → slice_get (own_of op) place ≡ Some part → IsOwn p part own → IsOwn p node own

-- ---- a column for this

abbrev pub is_set : List Bool → ℕ → Bool
is_set column node = slice_index_or column node false

-- the node, and all that its own evaluation has, is marked
abbrev pub IsWhole : Program → List Bool → ℕ → Type 0
IsWhole p began node = (own : ℕ) → IsOwn p node own → is_set began own ≡ true

-- the first nodes that are so
abbrev pub AreWhole : Program → List Bool → List Bool → Type 0
AreWhole p began whole = (node : ℕ) → node < length whole → (is_set whole node ≡ true) ↔ IsWhole p began node

-- whether all of some nodes are marked; each of them has a mark
pub record AreAllSet (column : List Bool) (nodes : List ℕ) (all : Bool) : Type 0 where
  pub is : all ≡ list_all (is_set column) nodes
  pub below : (place node : ℕ) → slice_get nodes place ≡ Some node → node < length column

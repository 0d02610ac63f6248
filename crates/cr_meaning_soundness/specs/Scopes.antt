-- Which part of a node gives which of its answers, and which objects the node enters for its parts (C11 6.2.1, 6.2.4p6).
use Rattle.std.specs.Prelude.{◌≡◌, ℕ, zero, suc, Bool, true, false, Option, Some, List, [], ◌∷◌, map, length, drop, slice_get, ◌⊎◌}
use Rattle.cr_meaning.specs.World.{Program, Binding, object_for}
use Rattle.cr_meaning.specs.declared.op.Op.{Op}
use Rattle.cr_meaning.specs.declared.op.Parameter.{Parameter}
use Rattle.cr_meaning.specs.declared.op.Callee.TheVariants.{Function}
use Rattle.cr_meaning.specs.declared.op.Work.{Work}
use Rattle.cr_meaning.specs.declared.op.Work.TheVariants as work
use Rattle.cr_meaning_soundness.specs.Sorts.{IsAmong}

-- a function's arguments, and then its body
abbrev pub IsArgumentOrBody : List ℕ → ℕ → ℕ → ℕ → Type 0
IsArgumentOrBody parts rest k node = (slice_get parts k ≡ Some node) ⊎ ((k ≡ length parts) × (rest ≡ node))

abbrev pub IsClause : Option ℕ → Option ℕ → Option ℕ → ℕ → ℕ → ℕ → Type 0
IsClause first control step rest zero node = first ≡ Some node
IsClause first control step rest (suc zero) node = control ≡ Some node
IsClause first control step rest (suc (suc zero)) node = rest ≡ node
IsClause first control step rest (suc (suc (suc zero))) node = step ≡ Some node
IsClause first control step rest k node = ⊥

-- a node's part in the k-th place of its answers: of `?:` and `if` the second answer is that of either part; the first answer of a
-- block, and the second of a `switch`, stands for its entry
abbrev pub IsPart : Work → List ℕ → ℕ → ℕ → Type 0
IsPart (work.Conditional form) parts (suc zero) node = (slice_get parts 1 ≡ Some node) ⊎ (slice_get parts 2 ≡ Some node)
IsPart (work.Conditional form) parts (suc (suc k)) node = ⊥
IsPart work.If parts (suc zero) node = (slice_get parts 1 ≡ Some node) ⊎ (slice_get parts 2 ≡ Some node)
IsPart work.If parts (suc (suc k)) node = ⊥
IsPart work.While parts (suc (suc k)) node = ⊥
IsPart work.Do parts (suc (suc k)) node = ⊥
IsPart (work.Call (Function parameters rest is_main)) parts k node = IsArgumentOrBody parts rest k node
IsPart (work.For objects first control step rest) parts k node = IsClause first control step rest k node
IsPart (work.Switch kind rest objects cases other labels) parts (suc zero) node = ⊥
IsPart (work.Switch kind rest objects cases other labels) parts (suc (suc k)) node = slice_get (drop 1 parts) k ≡ Some node
IsPart (work.Block objects labels) parts zero node = ⊥
IsPart (work.Block objects labels) parts (suc k) node = slice_get parts k ≡ Some node
IsPart (work.Program objects parameters strings rest) parts zero node = ⊥
IsPart (work.Program objects parameters strings rest) parts (suc k) node = IsArgumentOrBody parts rest k node
IsPart other parts k node = slice_get parts k ≡ Some node

abbrev pub nodes_of : List Parameter → List ℕ
nodes_of parameters = map (λ parameter. parameter.node) parameters

-- the objects that a node enters for its parts
abbrev pub entered_by : Work → List ℕ
entered_by (work.Call (Function parameters rest is_main)) = nodes_of parameters
entered_by (work.For objects first control step rest) = objects
entered_by (work.Switch kind rest objects cases other labels) = objects
entered_by (work.Block objects labels) = objects
entered_by other = []

-- more than a list has entries
abbrev pub is_past : List ℕ → ℕ → Bool
is_past parts zero = false
is_past [] (suc n) = true
is_past (part ∷ parts) (suc n) = is_past parts n

-- after so many answers the node has entered them: a call after its arguments, a `switch` after its controlling expression
abbrev pub is_open : Work → List ℕ → ℕ → Bool
is_open (work.Call (Function parameters rest is_main)) parts n = is_past parts n
is_open (work.For objects first control step rest) parts (suc n) = true
is_open (work.Switch kind rest objects cases other labels) parts (suc (suc n)) = true
is_open (work.Block objects labels) parts (suc n) = true
is_open other parts n = false

-- ---- objects that are there

abbrev pub IsBound : ℕ → List Binding → Type 0
IsBound declared bindings = (object : ℕ) × (object_for bindings declared ≡ Some object)

abbrev pub AreBound : List ℕ → List Binding → Type 0
AreBound declared bindings = (node : ℕ) → IsAmong node declared → IsBound node bindings

-- a node's objects, by what it sees
abbrev pub AreSeen : (ℕ → ℕ → Bool) → ℕ → List Binding → Type 0
AreSeen sees node bindings = (declared : ℕ) → sees node declared ≡ true → IsBound declared bindings

-- a part sees no more than its node does, and what that enters for it
abbrev pub AreScoped : Program → (ℕ → ℕ → Bool) → Type 0
AreScoped p sees = (node : ℕ) (op : Op) (k part declared : ℕ) → slice_get p.ops node ≡ Some op → IsPart op.work op.parts k part → sees part declared ≡ true
    → (sees node declared ≡ true) ⊎ ((is_open op.work op.parts (suc k) ≡ true) × IsAmong declared (entered_by op.work))

-- the initialisers of static objects see these, and main's body its parameters too
pub record IsScopedWhole (sees : ℕ → ℕ → Bool) (parts objects : List ℕ) (parameters : List Parameter) (rest : ℕ) : Type 0 where
  pub part_sees : (k part declared : ℕ) → slice_get parts k ≡ Some part → sees part declared ≡ true → IsAmong declared objects
  pub rest_sees : (declared : ℕ) → sees rest declared ≡ true → IsAmong declared objects ⊎ IsAmong declared (nodes_of parameters)

-- What a reader expects of places.
use Rattle.std.specs.Prelude.{◌≡◌, ℕ, Bool, true, false, Option, Some, None, Result, Ok, Err, List, [], ◌∷◌, slice_get, ◌⊎◌}
use Rattle.std.specs.List.{AllByRecursion}
use Rattle.cr_memory.specs.declared.value.Pointer.{Pointer}
use Rattle.cr_memory.specs.declared.value.Scalar.{Scalar}
use Rattle.cr_memory.specs.declared.value.Scalar.TheVariants as scalar
use Rattle.cr_memory.specs.declared.value.Cell.{Cell}
use Rattle.cr_memory.specs.declared.value.Cell.TheVariants as cell
use Rattle.cr_memory.specs.declared.value.Trap.{Trap}
use Rattle.cr_memory.specs.Kind.{is_same}
use Rattle.cr_memory.specs.Access.{shape_at}
use Rattle.cr_meaning.specs.Language.{went}
use Rattle.cr_meaning.specs.World.{Program, World, Answer, untyped, object_for}
use Rattle.cr_meaning.specs.Values.{if_lives, moved_either}
use Rattle.cr_meaning.specs.Work.{place_of, followed, inner_of}
use Rattle.cr_meaning.specs.Nodes.{values, expression}
use Rattle.cr_meaning.specs.Meaning.{body, operands, root_of, start_of}
use Rattle.cr_meaning.specs.declared.op.Op.{Op}
use Rattle.cr_meaning.specs.declared.op.Access.TheVariants as access
use Rattle.cr_meaning.specs.declared.op.Change.{Change}
use Rattle.cr_meaning.specs.declared.op.Form.{Form}
use Rattle.cr_meaning.specs.declared.op.Form.TheVariants as form
use Rattle.cr_meaning.specs.declared.op.Work.{Work}
use Rattle.cr_meaning.specs.declared.op.Work.TheVariants as work
use Rattle.cr_meaning.specs.declared.value.Value.{Value}
use Rattle.cr_meaning.specs.declared.value.Value.TheVariants.{Place}
use Rattle.cr_meaning.specs.declared.run.Limits.{Limits}
use Rattle.cr_meaning_operations.specs.Operations.{program_of}
use Rattle.cr_typed.specs.declared.typed.Typed.{Typed}
use Rattle.cr_meaning_places.specs.Places.{IsDeclared}
use Rattle.cr_meaning_places.specs.Courses.{Asks}

-- a literal's cells hold no pointers (6.4.5p6)
abbrev pub IsPlain : Cell → Type 0
IsPlain (cell.Pointer at) = ⊥
IsPlain held = Unit {0}

abbrev pub HasPlainLiterals : Program → Type 0
HasPlainLiterals p = (node : ℕ) (held : List Cell) → p.literal node ≡ Some held → AllByRecursion IsPlain held

-- the place that a node gives, before it is used as the node says
abbrev pub place_given : World → Work → List Value → Result Pointer Trap
place_given world (work.Object declared of) [] = place_of world.memory (object_for world.bindings declared) of
place_given world work.Pass (Place at ∷ []) = Ok at
place_given world (work.Dereference own) (value ∷ []) = followed own value (λ at. if_lives world.memory at (Ok at))
place_given world (work.Member structure before own form) (Place at ∷ []) = inner_of world.memory structure before own at
place_given world (work.PointerMember structure before own) (value ∷ []) = followed structure value (inner_of world.memory structure.cells before own)
place_given world (work.Subscript own) (left ∷ right ∷ []) = moved_either world.memory false own left right
place_given world other given = Err untyped

-- the kind of a type's one cell
abbrev pub scalar_of : Form → Option Scalar
scalar_of (form.Number kind) = Some (scalar.Int kind)
scalar_of (form.Pointer to) = Some (scalar.Pointer to)
scalar_of other = None

-- a node's own work reads or writes a scalar of this kind at a place: it is read there (6.3.2.1p2), assigned to (6.5.16p3) or changed
-- (6.5.2.4p2, 6.5.3.1p2, 6.5.16.2p3)
pub data Accesses (p : Program) (world : World) (op : Op) (given : List Value) : Pointer → Scalar → Type 0 where
  reads : (at : Pointer) (kind : Scalar) (volatile : Bool) → op.access ≡ access.Scalar kind volatile → place_given world op.work given ≡ Ok at
      → Accesses p world op given at kind
  assigns : (at : Pointer) (kind : Scalar) (form : Form) (value : Value) → op.work ≡ work.Assign form → scalar_of form ≡ Some kind → given ≡ Place at ∷ value ∷ []
      → Accesses p world op given at kind
  steps : (at : Pointer) (kind : Scalar) (change : Change) (form : Form) (volatile post : Bool) → op.work ≡ work.Update change form volatile post → scalar_of form ≡ Some kind
      → given ≡ Place at ∷ [] → Accesses p world op given at kind
  updates : (at : Pointer) (kind : Scalar) (change : Change) (form : Form) (volatile post : Bool) (value : Value) → op.work ≡ work.Update change form volatile post
      → scalar_of form ≡ Some kind → given ≡ Place at ∷ value ∷ [] → Accesses p world op given at kind

-- or it reads or writes the cells of a structure there (6.5.16.1p2, 6.2.6.1p6)
pub data Copies (p : Program) (world : World) (op : Op) (given : List Value) : Pointer → Type 0 where
  taken : (at : Pointer) (row : ℕ) → op.access ≡ access.Cells row → place_given world op.work given ≡ Ok at → Copies p world op given at
  put : (at : Pointer) (row : ℕ) (value : Value) → op.work ≡ work.Assign (form.Cells row) → given ≡ Place at ∷ value ∷ [] → Copies p world op given at

-- a node is asked for its own work in some run of a program, in this world and with these answers of its parts
abbrev pub IsAsked : Program → ℕ → Op → List Answer → World → Type 0
IsAsked p node op done world =
    (slice_get p.ops node ≡ Some op) × Asks (body p) (body p (operands (root_of p) [])) (start_of p.limits) (operands node done) world

-- in the run of any program, wherever a scalar or a structure is read or written: that place is a declared one
abbrev pub PlacesAreDeclared : Type 0
PlacesAreDeclared = (p : Program) → HasPlainLiterals p → (node : ℕ) (op : Op) (done : List Answer) (world : World) → IsAsked p node op done world → (at : Pointer)
    → ((kind : Scalar) × Accesses p world op (values done) at kind) ⊎ Copies p world op (values done) at → IsDeclared p world.memory at

-- and where the node comes to an answer, the scalar has in its object just the kind that it was read or written as
abbrev pub ScalarsAreOwn : Type 0
ScalarsAreOwn = (p : Program) (node : ℕ) (done : List Answer) (world new : World) (op : Op) (answer : Answer) (at : Pointer) (kind : Scalar)
    → Accesses p world op (values done) at kind → expression p node op done world ≡ went answer new → is_same (shape_at world.memory at).0 kind ≡ true

-- the same of the program of a typed unit, so of each file that breaks no constraint
abbrev pub UnitsHaveDeclaredPlaces : Type 0
UnitsHaveDeclaredPlaces = (t : Typed) (limits : Limits) (node : ℕ) (op : Op) (done : List Answer) (world : World) → IsAsked (program_of t limits) node op done world → (at : Pointer)
    → ((kind : Scalar) × Accesses (program_of t limits) world op (values done) at kind) ⊎ Copies (program_of t limits) world op (values done) at
    → IsDeclared (program_of t limits) world.memory at

-- What the nodes of a program give, and when a value is such in a memory (C11 6.2.5, 6.3.2.1, 6.3.2.3, 6.8.6).
use Rattle.std.specs.Prelude.{◌≡◌, ℕ, ◌^◌, ◌<◌, Bool, true, Some, List, [], ◌∷◌, map, length, replicate, ◌⊎◌}
use Rattle.cr_ints.specs.declared.kind.IntKind.{IntKind}
use Rattle.cr_ints.specs.declared.kind.IntKind.TheVariants.{Char as CharKind}
use Rattle.cr_ints.specs.IntKind.{Represents}
use Rattle.cr_memory.specs.declared.value.Pointer.TheVariants.{At}
use Rattle.cr_memory.specs.declared.value.Scalar.{Scalar}
use Rattle.cr_memory.specs.declared.value.Scalar.TheVariants as scalar
use Rattle.cr_memory.specs.declared.value.Guard.{Guard}
use Rattle.cr_memory.specs.Memory.{Object, Memory, IsPointer, AllHold, live_object}
use Rattle.cr_memory.specs.Access.{HasStride}
use Rattle.cr_memory.specs.Continues.{Continues}
use Rattle.cr_memory.specs.Laws.{HoldsKinds}
use Rattle.cr_meaning.specs.World.{Program, World, Binding, bound, mark, Answer, part, next, broke, continued, jumped, returned}
use Rattle.cr_meaning.specs.Work.{is_nothing, is_void}
use Rattle.cr_meaning.specs.declared.op.Form.{Form}
use Rattle.cr_meaning.specs.declared.op.Form.TheVariants as form
use Rattle.cr_meaning.specs.declared.value.Value.{Value}
use Rattle.cr_meaning.specs.declared.value.Value.TheVariants.{Nothing, Number, Pointer as Pointing, Place, Cells}

-- ---- what a node gives

-- what a statement may come to, beside that the next one follows (6.8.6)
pub record Exits : Type 0 where
  -- a `break`, or a `continue`, that leaves it
  pub breaks : Bool
  pub continues : Bool
  -- the labels, by their nodes, for which a `goto` leaves it
  pub labels : List ℕ
  -- the type of what its function gives
  pub result : Form

pub data Sort : Type 0 where
  -- no value: a void expression (6.3.2.2)
  void : Sort
  -- a number of an integer type
  number : IntKind → Sort
  -- a pointer
  pointer : Sort
  -- the place of an element of so many cells (6.3.2.1p1)
  place : ℕ → Sort
  -- the cells of a structure, or of an array that is no lvalue
  cells : List Scalar → Sort
  -- the place of a string literal, an array of char (6.4.5p6)
  chars : Sort
  -- no value, by a statement or a declaration, which may come to these instead
  statement : Exits → Sort

abbrev pub sort_of_scalar : Scalar → Sort
sort_of_scalar (scalar.Int kind) = number kind
sort_of_scalar (scalar.Pointer to) = pointer

abbrev pub sort_of : Program → Form → Sort
sort_of p form.Void = void
sort_of p (form.Number kind) = number kind
sort_of p (form.Pointer to) = pointer
sort_of p (form.Cells row) = cells (p.kinds row)

-- the sorts of an object's cells, where pointers are not told apart
abbrev pub sorts_in : List (Scalar × Guard) → List Sort
sorts_in shape = map (λ own. sort_of_scalar own.0) shape

-- ---- values in a memory

-- all cells are chars
abbrev pub AreChars : List (Scalar × Guard) → Type 0
AreChars shape = sorts_in shape ≡ replicate (length shape) (number CharKind)

abbrev pub HoldsChars : Memory → ℕ → Type 0
HoldsChars memory object = (live : Object) → live_object memory object ≡ Some live → AreChars live.shape

-- a value of the sort: a number lies in its type's range; a pointer, and a place, is one of the memory: null, or into an array of
-- whole elements of an object that was entered, within that object as long as it lives (6.5.6p8, 6.2.4p2); a structure has a cell for
-- each of its kinds, which holds nothing or a value of the kind. A node that gives no place may give no value: a call does whose
-- function reached its closing brace (6.9.1p12)
abbrev pub Fits : Memory → Sort → Value → Type 0
Fits memory (place count) Nothing = ⊥
Fits memory chars Nothing = ⊥
Fits memory sort Nothing = Unit {0}
Fits memory (number kind) (Number from value) = (from ≡ kind) × Represents kind value
Fits memory pointer (Pointing at) = IsPointer memory at
Fits memory (place count) (Place at) = IsPointer memory at × HasStride at count
Fits memory (cells kinds) (Cells held) = AllHold memory kinds held
Fits memory chars (Place (At object cell low high stride)) = IsPointer memory (At object cell low high stride) × HoldsChars memory object
Fits memory sort other = ⊥

-- one of these numbers
abbrev pub IsAmong : ℕ → List ℕ → Type 0
IsAmong n [] = ⊥
IsAmong n (first ∷ rest) = (first ≡ n) ⊎ IsAmong n rest

-- a `return` gives a value of its function's type, and just none where that is void (6.8.6.4p1, p3)
abbrev pub Returns : Program → Memory → Form → Value → Type 0
Returns p memory form value = Fits memory (sort_of p form) value × (is_nothing value ≡ is_void form)

-- an expression's answer is a value of its sort. After a statement the next one follows, or it is left as its sort says
abbrev pub Answers : Program → Memory → Sort → Answer → Type 0
Answers p memory (statement exits) next = Unit {0}
Answers p memory (statement exits) broke = exits.breaks ≡ true
Answers p memory (statement exits) continued = exits.continues ≡ true
Answers p memory (statement exits) (jumped label) = IsAmong label exits.labels
Answers p memory (statement exits) (returned value) = Returns p memory exits.result value
Answers p memory (statement exits) (part value events) = ⊥
Answers p memory sort (part value events) = Fits memory sort value
Answers p memory sort other = ⊥

-- ---- worlds

-- the object that was entered for a node lives, and has the cells that the node says
pub record IsEntered (p : Program) (memory : Memory) (node object : ℕ) : Type 0 where
  pub live : Object
  pub lives : live_object memory object ≡ Some live
  pub sorts : sorts_in live.shape ≡ sorts_in (p.shape node)

abbrev pub AreEntered : Program → Memory → List Binding → Type 0
AreEntered p memory [] = Unit {0}
AreEntered p memory (mark ∷ rest) = AreEntered p memory rest
AreEntered p memory (bound node object ∷ rest) = IsEntered p memory node object × AreEntered p memory rest

-- each cell of the memory holds nothing or a value of its kind, and the difference of two places of an object is a number of `long`
-- (6.5.6p9), now and of what is entered later
pub record IsSound (memory : Memory) : Type 0 where
  pub kinds : HoldsKinds memory
  pub small : (object : ℕ) (live : Object) → live_object memory object ≡ Some live → length live.cells < 2 ^ 63
  pub most : memory.most < 2 ^ 63

-- the memory is sound, and the objects of the nodes live
pub record IsWellFormed (p : Program) (world : World) : Type 0 where
  pub sound : IsSound world.memory
  pub entered : AreEntered p world.memory world.bindings

-- what an evaluation keeps: its answer fits, the world is well formed, all objects are as before, so what fitted before fits, and the
-- nodes have the objects that they had
pub record Keeps (p : Program) (old new : World) (sort : Sort) (answer : Answer) : Type 0 where
  pub fits : Answers p new.memory sort answer
  pub well_formed : IsWellFormed p new
  pub continues : Continues old.memory new.memory
  pub bindings : new.bindings ≡ old.bindings

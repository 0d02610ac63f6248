-- Where places come from (C11 6.5p7): from an object as it was declared, by the members and elements of its type.
use Rattle.std.specs.Prelude.{◌≡◌, ℕ, ◌<◌, ◌==◌, ℤ, true, false, Some, Ok, List, [], ◌∷◌, length, slice_get, ◌⊎◌}
use Rattle.cr_memory.specs.declared.value.Element.{Element}
use Rattle.cr_memory.specs.declared.value.Pointer.{Pointer}
use Rattle.cr_memory.specs.declared.value.Pointer.TheVariants.{Null, At}
use Rattle.cr_memory.specs.declared.value.Scalar.{Scalar}
use Rattle.cr_memory.specs.declared.value.Guard.{Guard}
use Rattle.cr_memory.specs.declared.value.Guard.TheVariants.{Free}
use Rattle.cr_memory.specs.Memory.{Object, Memory, live_object}
use Rattle.cr_memory.specs.Pointers.{moved_by}
use Rattle.cr_meaning.specs.World.{Program}
use Rattle.cr_meaning.specs.Values.{misfits, strays, scalar_element}
use Rattle.cr_meaning.specs.Work.{first_element, inner}
use Rattle.cr_meaning.specs.declared.op.Op.{Op}
use Rattle.cr_meaning.specs.declared.op.Form.{Form}
use Rattle.cr_meaning.specs.declared.op.Access.TheVariants as access
use Rattle.cr_meaning.specs.declared.op.Parameter.{Parameter}
use Rattle.cr_meaning.specs.declared.op.Work.{Work}
use Rattle.cr_meaning.specs.declared.op.Work.TheVariants as work

-- ---- objects

-- an object that was entered: as long as it lives its cells have these kinds and guards
pub record HasShape (memory : Memory) (object : ℕ) (shape : List (Scalar × Guard)) : Type 0 where
  pub entered : object < length memory.objects
  pub same : (live : Object) → live_object memory object ≡ Some live → live.shape ≡ shape

-- so many cells
abbrev pub HasCount : Memory → ℕ → ℕ → Type 0
HasCount memory object count = (live : Object) → live_object memory object ≡ Some live → length live.cells ≡ count

-- the array of one null pointer to which main's second parameter points (5.1.2.2.1p2)
pub record AreStrings (p : Program) (memory : Memory) (object : ℕ) (kind : Scalar) : Type 0 where
  pub node : ℕ
  pub op : Op
  pub objects : List ℕ
  pub parameters : List Parameter
  pub rest : ℕ
  pub op_is : slice_get p.ops node ≡ Some op
  pub work_is : op.work ≡ work.Program objects parameters kind rest
  pub has : HasShape memory object ((kind, Free) ∷ [])

-- an object that was entered for a node, as the node declares it; or those strings, which are entered for main's second parameter too
abbrev pub IsObjectOf : Program → Memory → ℕ → ℕ → Type 0
IsObjectOf p memory declared object = HasShape memory object (p.shape declared) ⊎ ((kind : Scalar) × AreStrings p memory object kind)

-- ---- the type of the place that a node gives

-- a pointer that isn't null is to elements of a type of which this holds
abbrev pub IsTo : Pointer → (ℕ → Type 0) → Type 0
IsTo Null P = Unit {0}
IsTo (At object cell low high element) P = P element.of

-- the name of the type, where the node says it; of other nodes nothing is said, as they give no places in a program that is typed
abbrev pub Names : Work → ℕ → Type 0
Names (work.Object declared own) of = of ≡ own
Names (work.Dereference own) of = of ≡ own.of
Names (work.Subscript own) of = of ≡ own.of
Names (work.Member whole before own form) of = of ≡ own.of
Names (work.PointerMember whole before own) of = of ≡ own.of
Names work.Pass of = ⊥
Names other of = Unit {0}

-- brackets hand on what stands in them
pub data Gives (p : Program) : ℕ → ℕ → Type 0 where
  named : (node of : ℕ) (op : Op) → slice_get p.ops node ≡ Some op → Names op.work of → Gives p node of
  passed : (node part of : ℕ) (op : Op) → slice_get p.ops node ≡ Some op → op.work ≡ work.Pass → slice_get op.parts 0 ≡ Some part → Gives p part of → Gives p node of

-- ---- places

-- an object as an array of one, of its declared type
abbrev pub whole_of : ℕ → ℕ → ℕ → Pointer
whole_of object count of =
    let whole : Element = record { cells = count; of = of } in
    At object 0 0 count whole

-- null, or a place in an object that was entered: the object that a node names, of the type that it was declared with (6.5.1p2);
-- main's strings; of a structure a member, where the place is one of that structure (6.5.2.3p3, p4); the first element of an array
-- (6.3.2.1p3); and another element of that array, or its end (6.5.6p8)
pub data IsDeclared (p : Program) (memory : Memory) : Pointer → Type 0 where
  null : IsDeclared p memory Null
  whole : (node declared object count of : ℕ) (op : Op) → slice_get p.ops node ≡ Some op → op.work ≡ work.Object declared of → IsObjectOf p memory declared object
      → HasCount memory object count → IsDeclared p memory (whole_of object count of)
  strings : (object : ℕ) (kind : Scalar) → AreStrings p memory object kind → IsDeclared p memory (At object 0 0 1 (scalar_element kind))
  member : (node part structure before : ℕ) (own : Element) (form : Form) (op : Op) (at : Pointer) → slice_get p.ops node ≡ Some op
      → op.work ≡ work.Member structure before own form → slice_get op.parts 0 ≡ Some part → IsTo at (Gives p part) → strays structure at ≡ false
      → IsDeclared p memory at → IsDeclared p memory (inner before own at)
  pointed : (node before : ℕ) (structure own : Element) (op : Op) (at : Pointer) → slice_get p.ops node ≡ Some op → op.work ≡ work.PointerMember structure before own
      → misfits structure at ≡ false → IsDeclared p memory at → IsDeclared p memory (inner before own at)
  first : (node array : ℕ) (own : Element) (op : Op) (at : Pointer) → slice_get p.ops node ≡ Some op → op.access ≡ access.Array own array
      → IsTo at (Gives p node) → ((array == 0) ≡ true) ⊎ (strays array at ≡ false) → IsDeclared p memory at → IsDeclared p memory (first_element at own)
  moved : (at new : Pointer) (by : ℤ) → moved_by at by ≡ Ok new → IsDeclared p memory at → IsDeclared p memory new

-- What callers of the memory may use of pointers and cells, as facts about the definitions.
use Rattle.std.specs.Prelude.{◌≡◌, ℕ, ◌+◌, ◌%◌, ◌<◌, ◌≤◌, false, Some, Ok, length, map}
use Rattle.cr_memory.specs.declared.value.Element.{Element}
use Rattle.cr_memory.specs.declared.value.Pointer.{Pointer}
use Rattle.cr_memory.specs.declared.value.Pointer.TheVariants.{At}
use Rattle.cr_memory.specs.declared.value.Scalar.{Scalar}
use Rattle.cr_memory.specs.declared.value.Cell.{Cell}
use Rattle.cr_memory.specs.Memory.{Object, Memory, IsPointer, AllHold, KeepsPointers, live_object, has_ended}
use Rattle.cr_memory.specs.Access.{holds_ended, is_unset, load_of, save_of}
use Rattle.cr_memory.specs.Continues.{Continues, ContinuesBeside}

-- ---- pointers

-- a live object as one array, of elements of so many cells each
abbrev pub WholeObjectIsPointed : Type 0
WholeObjectIsPointed = (memory : Memory) (object : ℕ) (stride : Element) (live : Object) → live_object memory object ≡ Some live
    → 1 ≤ stride.cells → length live.cells % stride.cells ≡ 0 → IsPointer memory (At object 0 0 (length live.cells) stride)

-- some cells of the element that a pointer points to, as an array of its own: a member, an element, or an array in it
abbrev pub PartIsPointed : Type 0
PartIsPointed = (memory : Memory) (object cell low high : ℕ) (stride : Element) (first count : ℕ) (within : Element) → IsPointer memory (At object cell low high stride)
    → cell < high → first + count ≤ stride.cells → 1 ≤ within.cells → count % within.cells ≡ 0
    → IsPointer memory (At object (cell + first) (cell + first) (cell + first + count) within)

-- ---- while the program goes on

abbrev pub PointersLast : Type 0
PointersLast = (old new : Memory) → Continues old new → KeepsPointers old new

-- a pointer's object has ended in the new memory exactly where it had in the old one
abbrev pub LifetimesLast : Type 0
LifetimesLast = (old new : Memory) (at : Pointer) → Continues old new → IsPointer old at → has_ended new at ≡ has_ended old at

abbrev pub MemoryContinues : Type 0
MemoryContinues = (memory : Memory) → Continues memory memory

abbrev pub ContinuesOnward : Type 0
ContinuesOnward = (first second third : Memory) → Continues first second → Continues second third → Continues first third

-- where all objects but one continue, and that one was entered since, all that were there before continue
abbrev pub ContinuesPastNew : Type 0
ContinuesPastNew = (first second third : Memory) (object : ℕ) → Continues first second → ContinuesBeside object second third
    → length first.objects ≤ object → Continues first third

-- ---- cells

-- what is saved is loaded: a value that is set, and no pointer to an ended object
abbrev pub SavedIsLoaded : Type 0
SavedIsLoaded = (old new : Memory) (at : Pointer) (kind : Scalar) (value : Cell) → IsPointer old at → is_unset value ≡ false → holds_ended old value ≡ false
    → save_of old at kind value ≡ Ok new → load_of new at kind ≡ Ok value

-- each live object has one cell for each kind and guard, and each cell holds a value of its kind
abbrev pub HoldsKinds : Memory → Type 0
HoldsKinds memory = (object : ℕ) (live : Object) → live_object memory object ≡ Some live → AllHold memory (map (λ own. own.0) live.shape) live.cells

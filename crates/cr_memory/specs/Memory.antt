-- The memory of a program (C11 6.2.4, 6.2.6): its objects by their numbers, with the cells of each.
use Rattle.std.specs.Prelude.{◌≡◌, ℕ, ◌+◌, ◌-◌, ◌<◌, ◌≤◌, ◌%◌, pos, Bool, false, is_none, Option, Some, None, List, [], ◌∷◌, ◌++◌, map, length, sum_by, nat_le, nat_lt, ◌&&◌, slice_set, slice_index_or, if◌then◌else◌}
use Rattle.cr_ints.specs.IntKind.{Represents}
use Rattle.cr_memory.specs.declared.value.Pointer.{Pointer}
use Rattle.cr_memory.specs.declared.value.Pointer.TheVariants.{Null, At}
use Rattle.cr_memory.specs.declared.value.Scalar.{Scalar}
use Rattle.cr_memory.specs.declared.value.Scalar.TheVariants.{Int as IntegerKind, Pointer as PointerKind}
use Rattle.cr_memory.specs.declared.value.Cell.{Cell}
use Rattle.cr_memory.specs.declared.value.Cell.TheVariants.{Unset, Number, Pointer as PointerCell}
use Rattle.cr_memory.specs.declared.value.Guard.{Guard}

-- ---- objects

-- the cells of a live object, and for each its kind and its guard
pub record Object : Type 0 where
  pub cells : List Cell
  pub shape : List (Scalar × Guard)

-- the objects that were entered so far, by number: none where the object's lifetime has ended; and how many cells may
-- live at once
pub record Memory : Type 0 where
  pub most : ℕ
  pub objects : List (Option Object)

-- the object of that number while it lives
abbrev pub live_object : Memory → ℕ → Option Object
live_object memory number = slice_index_or memory.objects number None

abbrev pub count_of : Option Object → ℕ
count_of None = 0
count_of (Some object) = length object.cells

-- the cells that live
abbrev pub live_cells : Memory → ℕ
live_cells memory = sum_by count_of memory.objects

-- ---- pointers

-- a pointer that this memory can give: null, or into an array of whole elements in an object that was entered
pub record IsArrayPlace (memory : Memory) (object cell low high stride : ℕ) : Type 0 where
  pub entered : object < length memory.objects
  pub stride_above : 1 ≤ stride
  pub low_before : low ≤ cell
  pub high_after : cell ≤ high
  pub whole_before : (cell - low) % stride ≡ 0
  pub whole_after : (high - cell) % stride ≡ 0
  pub within : (live : Object) → live_object memory object ≡ Some live → high ≤ length live.cells

abbrev pub IsPointer : Memory → Pointer → Type 0
IsPointer memory Null = Unit {0}
IsPointer memory (At object cell low high stride) = IsArrayPlace memory object cell low high stride.cells

-- what a cell of a kind may hold: nothing yet, a number of the integer type's range, or a pointer
abbrev pub Holds : Memory → Scalar → Cell → Type 0
Holds memory kind Unset = Unit {0}
Holds memory (IntegerKind kind) (Number value) = Represents kind value
Holds memory (IntegerKind kind) (PointerCell pointer) = ⊥
Holds memory (PointerKind to) (Number value) = ⊥
Holds memory (PointerKind to) (PointerCell pointer) = IsPointer memory pointer

-- cells that hold values of the kinds, one by one
abbrev pub AllHold : Memory → List Scalar → List Cell → Type 0
AllHold memory [] [] = Unit {0}
AllHold memory [] (cell ∷ cells) = ⊥
AllHold memory (kind ∷ kinds) [] = ⊥
AllHold memory (kind ∷ kinds) (cell ∷ cells) = Holds memory kind cell × AllHold memory kinds cells

-- the lifetime of the object that the pointer points to, or just past, has ended (6.2.4p2)
abbrev pub has_ended : Memory → Pointer → Bool
has_ended memory Null = false
has_ended memory (At object cell low high stride) = is_none (live_object memory object)

-- every pointer of the one memory is one of the other
pub record KeepsPointers (old new : Memory) : Type 0 where
  pub kept : (pointer : Pointer) → IsPointer old pointer → IsPointer new pointer

-- ---- lifetimes

-- what an object's cell holds at the start of the lifetime: zero or null, or nothing (6.2.4p6, 6.7.9p10)
abbrev pub zero_of : Scalar → Cell
zero_of (IntegerKind kind) = Number (pos 0)
zero_of (PointerKind to) = PointerCell Null

abbrev pub first_cell : Bool → Scalar × Guard → Cell
first_cell zero shape = if zero then zero_of shape.0 else Unset

abbrev pub new_object : Bool → List (Scalar × Guard) → Object
new_object zero shape = record { cells = map (first_cell zero) shape; shape = shape }

-- there is room for an object of so many cells, and a number for it
abbrev pub has_room : Memory → ℕ → Bool
has_room memory count = nat_le (live_cells memory + count) memory.most && nat_lt (length memory.objects) 4294967295

abbrev pub with_object : Memory → Object → Memory
with_object memory object = record { most = memory.most; objects = memory.objects ++ Some object ∷ [] }

-- the object's lifetime has ended
abbrev pub without_object : Memory → ℕ → Memory
without_object memory number = record { most = memory.most; objects = slice_set memory.objects number None }

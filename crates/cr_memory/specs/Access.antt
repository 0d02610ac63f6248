-- Reading and writing through a pointer. Each operation gives its result, or the first case that holds in the order in
-- which the cases stand in its equation.
use Rattle.std.specs.Prelude.{◌≡◌, ℕ, suc, Bool, true, false, ◌||◌, not, nat_le, Option, Some, None, Result, Ok, Err, IsOk, List, [], ◌∷◌, length, take, drop, slice_index_or, slice_set, if◌then◌else◌}
use Rattle.std.specs.Global.{Vec}
use Rattle.std.specs.List.{list_any, list_all, zip}
use Rattle.cr_memory.specs.declared.value.Pointer.{Pointer}
use Rattle.cr_memory.specs.declared.value.Pointer.TheVariants.{Null, At}
use Rattle.cr_memory.specs.declared.value.Scalar.{Scalar}
use Rattle.cr_memory.specs.declared.value.Scalar.TheVariants.{Pointer as PointerKind}
use Rattle.cr_memory.specs.declared.value.Cell.{Cell}
use Rattle.cr_memory.specs.declared.value.Cell.TheVariants.{Unset, Number, Pointer as PointerCell}
use Rattle.cr_memory.specs.declared.value.Guard.{Guard}
use Rattle.cr_memory.specs.declared.value.Guard.TheVariants.{Free, Constant, Literal}
use Rattle.cr_memory.specs.declared.value.Trap.{Trap}
use Rattle.cr_memory.specs.declared.value.Trap.TheVariants.{Undefined, Left, NoMemory}
use Rattle.cr_memory.specs.declared.value.TheConstants.{NULL_OR_END, ENDED, UNSET, LITERAL_WRITTEN, CONSTANT_WRITTEN, OTHER_TYPE}
use Rattle.cr_memory.specs.Kind.{is_same}
use Rattle.cr_memory.specs.Memory.{Object, Memory, live_object, has_ended}

-- ---- what a pointer points to

-- the pointer is null or at the end of its array, so it points to no cell (6.5.3.2p4, 6.5.6p8)
abbrev pub is_null_or_end : Pointer → Bool
is_null_or_end Null = true
is_null_or_end (At object cell low high stride) = nat_le high cell

abbrev pub number_of : Pointer → ℕ
number_of Null = 0
number_of (At object cell low high stride) = object

abbrev pub cell_of : Pointer → ℕ
cell_of Null = 0
cell_of (At object cell low high stride) = cell

-- an object, with no cells where there is none
abbrev pub some_object : Option Object → Object
some_object None = record { cells = []; shape = [] }
some_object (Some object) = object

abbrev pub object_at : Memory → Pointer → Object
object_at memory at = some_object (live_object memory (number_of at))

-- the kind and the guard of an object's cell
abbrev pub shape_in : Memory → ℕ → ℕ → Scalar × Guard
shape_in memory number place = slice_index_or (some_object (live_object memory number)).shape place (PointerKind 0, Free)

-- the cell that the pointer points to, its kind and its guard
abbrev pub cell_at : Memory → Pointer → Cell
cell_at memory at = slice_index_or (object_at memory at).cells (cell_of at) Unset

abbrev pub shape_at : Memory → Pointer → Scalar × Guard
shape_at memory at = shape_in memory (number_of at) (cell_of at)

-- as many cells from there on, and their shape
abbrev pub cells_at : Memory → Pointer → ℕ → List Cell
cells_at memory at count = take count (drop (cell_of at) (object_at memory at).cells)

abbrev pub shape_run_at : Memory → Pointer → ℕ → List (Scalar × Guard)
shape_run_at memory at count = take count (drop (cell_of at) (object_at memory at).shape)

-- ---- tests on cells

-- the cell holds a pointer of which the test says that its object's lifetime has ended
abbrev pub holds_such : (Pointer → Bool) → Cell → Bool
holds_such ended Unset = false
holds_such ended (Number value) = false
holds_such ended (PointerCell pointer) = ended pointer

abbrev pub holds_ended : Memory → Cell → Bool
holds_ended memory = holds_such (has_ended memory)

abbrev pub is_unset : Cell → Bool
is_unset Unset = true
is_unset (Number value) = false
is_unset (PointerCell pointer) = false

abbrev pub is_literal : Guard → Bool
is_literal Free = false
is_literal Constant = false
is_literal Literal = true

abbrev pub is_constant : Guard → Bool
is_constant Free = false
is_constant Constant = true
is_constant Literal = false

-- the cells have the same kinds, one by one
abbrev pub have_kinds : List (Scalar × Guard) → List Scalar → Bool
have_kinds shape kinds = list_all (λ p. is_same p.0.0 p.1) (zip shape kinds)

abbrev pub have_same_kinds : List (Scalar × Guard) → List (Scalar × Guard) → Bool
have_same_kinds left right = list_all (λ p. is_same p.0.0 p.1.0) (zip left right)

-- ---- the memory after a write

-- the items written over those that stand from a place on
abbrev pub overwritten : {X : Type 0} → List X → ℕ → List X → List X
overwritten items place [] = items
overwritten items place (item ∷ rest) = overwritten (slice_set items place item) (suc place) rest

-- the cells stand in an object from a place on; kinds and guards stay, and so do all other objects
abbrev pub with_cells : Memory → ℕ → ℕ → List Cell → Memory
with_cells memory number place cells =
    let object = some_object (live_object memory number) in
    let written : Object = record { cells = overwritten object.cells place cells; shape = object.shape } in
    record { most = memory.most; objects = slice_set memory.objects number (Some written) }

-- ---- the operations, over any look-ups: whether a pointer's object has ended, and what stands where a pointer points to.
-- The memory has these look-ups, and the store has its own.

-- the pointer points to a cell of a live object; what comes after these two cases stands last
abbrev pub reaching : {A : Type 0} → Bool → Bool → Result A Trap → Result A Trap
reaching ended end rest = if ended then Err (Undefined ENDED) else (if end then Err (Undefined NULL_OR_END) else rest)

abbrev pub reach_by : (Pointer → Bool) → Pointer → Result (Unit {0}) Trap
reach_by ended at = reaching (ended at) (is_null_or_end at) (Ok tt)

-- the value of a scalar object (6.3.2.1p2)
abbrev pub load_by : (Pointer → Bool) → (Pointer → Cell) → (Pointer → Scalar × Guard) → Pointer → Scalar → Result Cell Trap
load_by ended cell own at kind =
    reaching (ended at) (is_null_or_end at)
    (if holds_such ended (cell at) then Err (Undefined ENDED)
    else (if not (is_same (own at).0 kind) then Err (Left OTHER_TYPE)
    else (if is_unset (cell at) then Err (Undefined UNSET)
    else Ok (cell at))))

-- a write, after its tests in their order: the state that it leaves
abbrev pub writing : {State : Type 0} → Bool → Bool → Bool → Bool → Bool → State → Result State Trap
writing ended end literal constant same state =
    reaching ended end
    (if literal then Err (Undefined LITERAL_WRITTEN)
    else (if constant then Err (Undefined CONSTANT_WRITTEN)
    else (if not same then Err (Left OTHER_TYPE)
    else Ok state)))

-- a value stored in a scalar object (6.5.16p3)
abbrev pub save_by : {State : Type 0} → (Pointer → Bool) → (Pointer → Scalar × Guard) → Pointer → Scalar → State → Result State Trap
save_by ended own at kind state =
    writing (ended at) (is_null_or_end at) (is_literal (own at).1) (is_constant (own at).1) (is_same (own at).0 kind) state

-- values stored in the cells of a structure (6.5.16.1p2): each case is looked for in all cells before the next case
abbrev pub put_by : {State : Type 0} → (Pointer → Bool) → (Pointer → ℕ → List (Scalar × Guard)) → Pointer → List Scalar → State → Result State Trap
put_by ended run to kinds state =
    writing (ended to) (is_null_or_end to) (list_any (λ s. is_literal s.1) (run to (length kinds)))
    (list_any (λ s. is_constant s.1) (run to (length kinds))) (have_kinds (run to (length kinds)) kinds) state

-- a structure stored in another one of as many cells (6.5.16.1p2, 6.2.6.1p6): all cells are read before one is written
abbrev pub copy_by : {State : Type 0} → (Pointer → Bool) → (Pointer → ℕ → List (Scalar × Guard)) → Pointer → Pointer → ℕ → State → Result State Trap
copy_by ended run from to count state =
    writing (ended from || ended to) (is_null_or_end from || is_null_or_end to) (list_any (λ s. is_literal s.1) (run to count))
    (list_any (λ s. is_constant s.1) (run to count)) (have_same_kinds (run from count) (run to count)) state

-- the cells of a structure (6.2.6.1p6), as many as there are kinds
abbrev pub cells_by : (Pointer → Bool) → (Pointer → ℕ → List Cell) → (Pointer → ℕ → List (Scalar × Guard)) → Pointer → List Scalar → Result (List Cell) Trap
cells_by ended cells run from kinds =
    reaching (ended from) (is_null_or_end from)
    (if not (have_kinds (run from (length kinds)) kinds) then Err (Left OTHER_TYPE)
    else Ok (cells from (length kinds)))

-- ---- the operations on the memory

abbrev pub reach_of : Memory → Pointer → Result (Unit {0}) Trap
reach_of memory = reach_by (has_ended memory)

abbrev pub load_of : Memory → Pointer → Scalar → Result Cell Trap
load_of memory = load_by (has_ended memory) (cell_at memory) (shape_at memory)

abbrev pub save_of : Memory → Pointer → Scalar → Cell → Result Memory Trap
save_of memory at kind value = save_by (has_ended memory) (shape_at memory) at kind (with_cells memory (number_of at) (cell_of at) (value ∷ []))

abbrev pub put_of : Memory → Pointer → List Scalar → List Cell → Result Memory Trap
put_of memory to kinds values = put_by (has_ended memory) (shape_run_at memory) to kinds (with_cells memory (number_of to) (cell_of to) values)

abbrev pub copy_of : Memory → Pointer → Pointer → ℕ → Result Memory Trap
copy_of memory from to count =
    copy_by (has_ended memory) (shape_run_at memory) from to count (with_cells memory (number_of to) (cell_of to) (cells_at memory from count))

abbrev pub cells_of : Memory → Pointer → List Scalar → Result (List Cell) Trap
cells_of memory = cells_by (has_ended memory) (cells_at memory) (shape_run_at memory)

-- a call that writes: it leaves the state that the operation gives, or its case and the state as it was
abbrev pub Writes : {State : Type 0} → Result State Trap → Result (Unit {0}) Trap → State → State → Type 0
Writes (Ok state) result old new = (result ≡ Ok tt) × (new ≡ state)
Writes (Err trap) result old new = (result ≡ Err trap) × (new ≡ old)

-- a call that makes a list: the list that the operation gives, its case, or no memory
abbrev pub Reads : Result (List Cell) Trap → Result (Vec Cell) Trap → Type 0
Reads want (Ok cells) = want ≡ Ok cells.items
Reads want (Err NoMemory) = IsOk want
Reads want (Err (Undefined number)) = want ≡ Err (Undefined number)
Reads want (Err (Left number)) = want ≡ Err (Left number)

-- a pointer that isn't null has elements of so many cells
abbrev pub HasStride : Pointer → ℕ → Type 0
HasStride Null count = Unit {0}
HasStride (At object cell low high stride) count = stride.cells ≡ count

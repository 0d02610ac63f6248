-- How the store keeps a memory: the cells of all objects one after another, and for each object the span of its cells.
use Rattle.std.specs.Prelude.{◌≡◌, ℕ, suc, ◌+◌, ◌-◌, ◌%◌, sum_by, ◌<◌, ◌≤◌, Bool, true, false, not, ◌⊎◌, Option, Some, None, Result, List, [], ◌∷◌, map, length, take, drop, slice_index_or, slice_set, if◌then◌else◌}
use Rattle.cr_ints.specs.IntKind.{Represents}
use Rattle.cr_memory.specs.declared.value.Pointer.{Pointer}
use Rattle.cr_memory.specs.declared.value.Pointer.TheVariants.{Null, At}
use Rattle.cr_memory.specs.declared.value.Scalar.{Scalar}
use Rattle.cr_memory.specs.declared.value.Scalar.TheVariants.{Int as IntegerKind, Pointer as PointerKind}
use Rattle.cr_memory.specs.declared.value.Cell.{Cell}
use Rattle.cr_memory.specs.declared.value.Cell.TheVariants.{Unset, Number, Pointer as PointerCell}
use Rattle.cr_memory.specs.declared.value.Guard.{Guard}
use Rattle.cr_memory.specs.declared.value.Guard.TheVariants.{Free}
use Rattle.cr_memory.specs.declared.value.Trap.{Trap}
use Rattle.cr_memory.specs.declared.span.Span.{Span}
use Rattle.cr_memory.specs.Memory.{Object, Memory}
use Rattle.cr_memory.specs.Pointers.{equality_by}
use Rattle.cr_memory.specs.Access.{holds_such, overwritten, load_by, save_by, put_by, copy_by, cells_by}

-- the span of an object whose lifetime has ended
abbrev pub ended_span : Span
ended_span = record { first = 0; count = 0; alive = false }

abbrev pub span_at : List Span → ℕ → Span
span_at spans number = slice_index_or spans number ended_span

-- the object of a span
abbrev pub object_of : List Cell → List (Scalar × Guard) → Span → Option Object
object_of cells shape span =
    if span.alive
    then Some (record { cells = take span.count (drop span.first cells); shape = take span.count (drop span.first shape) })
    else None

abbrev pub memory_of : ℕ → List Span → List Cell → List (Scalar × Guard) → Memory
memory_of most spans cells shape = record { most = most; objects = map (object_of cells shape) spans }

-- ---- the same tests as on the memory, on spans

abbrev pub ended_in : List Span → Pointer → Bool
ended_in spans Null = false
ended_in spans (At object cell low high stride) = not (span_at spans object).alive

abbrev pub held_ended_in : List Span → Cell → Bool
held_ended_in spans = holds_such (ended_in spans)

-- where the cell that a pointer points to stands in the flat store
abbrev pub index_of : List Span → Pointer → ℕ
index_of spans Null = 0
index_of spans (At object cell low high stride) = (span_at spans object).first + cell

-- ---- what the spans promise

-- a pointer names an object that was entered, into an array of whole elements, within its cells where it lives
pub record PlaceIn (spans : List Span) (object cell low high stride : ℕ) : Type 0 where
  pub entered : object < length spans
  pub stride_above : 1 ≤ stride
  pub low_before : low ≤ cell
  pub high_after : cell ≤ high
  pub whole_before : (cell - low) % stride ≡ 0
  pub whole_after : (high - cell) % stride ≡ 0
  pub within : (span_at spans object).alive ≡ true → high ≤ (span_at spans object).count

abbrev pub PointerIn : List Span → Pointer → Type 0
PointerIn spans Null = Unit {0}
PointerIn spans (At object cell low high stride) = PlaceIn spans object cell low high stride.cells

-- what a cell of a kind may hold
abbrev pub HoldsIn : List Span → Scalar → Cell → Type 0
HoldsIn spans kind Unset = Unit {0}
HoldsIn spans (IntegerKind kind) (Number value) = Represents kind value
HoldsIn spans (IntegerKind kind) (PointerCell pointer) = ⊥
HoldsIn spans (PointerKind to) (Number value) = ⊥
HoldsIn spans (PointerKind to) (PointerCell pointer) = PointerIn spans pointer

-- what stands at a place of the flat store
abbrev pub cell_or : List Cell → ℕ → Cell
cell_or cells index = slice_index_or cells index Unset

abbrev pub shape_or : List (Scalar × Guard) → ℕ → Scalar × Guard
shape_or shape index = slice_index_or shape index (PointerKind 0, Free)

-- the cells of these kinds may hold these values
abbrev pub OwnHold : List Span → List (Scalar × Guard) → List Cell → Type 0
OwnHold spans shape [] = Unit {0}
OwnHold spans [] (value ∷ values) = ⊥
OwnHold spans (own ∷ shape) (value ∷ values) = HoldsIn spans own.0 value × OwnHold spans shape values

-- values that the cells from a place on may hold
abbrev pub RunHolds : List Span → List (Scalar × Guard) → ℕ → List Cell → Type 0
RunHolds spans shape place [] = Unit {0}
RunHolds spans shape place (v ∷ vs) = HoldsIn spans (shape_or shape place).0 v × RunHolds spans shape (suc place) vs

-- a pointer that isn't null stands at or after the beginning of its array, and its elements have cells
abbrev pub HasSubscript : Pointer → Type 0
HasSubscript Null = Unit {0}
HasSubscript (At object cell low high stride) = (low ≤ cell) × (1 ≤ stride.cells)

-- each live span lies among so many cells
pub record HasRoom (spans : List Span) (room : ℕ) : Type 0 where
  pub within : (number : ℕ) → (span_at spans number).alive ≡ true → (span_at spans number).first + (span_at spans number).count ≤ room

abbrev pub span_count : Span → ℕ
span_count span = if span.alive then span.count else 0

-- the span of a live object; and a span at another place
abbrev pub span_of : ℕ → ℕ → Span
span_of first count = record { first = first; count = count; alive = true }

abbrev pub moved_span : ℕ → Span → Span
moved_span first span = record { first = first; count = span.count; alive = span.alive }

-- an object that lives, and none after it does; its cells end at a place
pub record IsLast (spans : List Span) (last end : ℕ) : Type 0 where
  pub alive : (span_at spans last).alive ≡ true
  pub later : (number : ℕ) → last < number → (span_at spans number).alive ≡ false
  pub ends : end ≡ (span_at spans last).first + (span_at spans last).count

-- where the cells of the last object that lives end; nowhere if none lives
abbrev pub EndsAfterLast : List Span → ℕ → Type 0
EndsAfterLast spans end = (((number : ℕ) → (span_at spans number).alive ≡ false) × (end ≡ 0)) ⊎ ((last : ℕ) × IsLast spans last end)

-- the first object from a number on that lives
pub record IsNext (spans : List Span) (from number : ℕ) : Type 0 where
  pub from_on : from ≤ number
  pub entered : number < length spans
  pub alive : (span_at spans number).alive ≡ true
  pub between : (n : ℕ) → from ≤ n → n < number → (span_at spans n).alive ≡ false

-- how many objects live
abbrev pub living_in : List Span → ℕ
living_in spans = sum_by (λ span. if span.alive then 1 else 0) spans

-- what holds of the store at every moment
pub record IsStored (most live : ℕ) (spans : List Span) (cells : List Cell) (shape : List (Scalar × Guard)) : Type 0 where
  pub same_length : length shape ≡ length cells
  pub room : HasRoom spans (length cells)
  -- a live span ends before a later live one begins
  pub apart : (left right : ℕ) → left < right → (span_at spans left).alive ≡ true → (span_at spans right).alive ≡ true
      → (span_at spans left).first + (span_at spans left).count ≤ (span_at spans right).first
  pub counted : live ≡ sum_by span_count spans
  pub at_most : live ≤ most
  pub holds : (index : ℕ) → index < length cells → HoldsIn spans (shape_or shape index).0 (cell_or cells index)

-- ---- the operations on the flat store, over its look-ups

-- what stands where a pointer points to, and as many of them from there on
abbrev pub cell_in : List Span → List Cell → Pointer → Cell
cell_in spans cells at = cell_or cells (index_of spans at)

abbrev pub own_in : List Span → List (Scalar × Guard) → Pointer → Scalar × Guard
own_in spans shape at = shape_or shape (index_of spans at)

abbrev pub run_in : {X : Type 0} → List Span → List X → Pointer → ℕ → List X
run_in spans items at count = take count (drop (index_of spans at) items)

abbrev pub flat_load : List Span → List Cell → List (Scalar × Guard) → Pointer → Scalar → Result Cell Trap
flat_load spans cells shape = load_by (ended_in spans) (cell_in spans cells) (own_in spans shape)

abbrev pub flat_save : List Span → List Cell → List (Scalar × Guard) → Pointer → Scalar → Cell → Result (List Cell) Trap
flat_save spans cells shape at kind value = save_by (ended_in spans) (own_in spans shape) at kind (slice_set cells (index_of spans at) value)

abbrev pub flat_put : List Span → List Cell → List (Scalar × Guard) → Pointer → List Scalar → List Cell → Result (List Cell) Trap
flat_put spans cells shape to kinds values = put_by (ended_in spans) (run_in spans shape) to kinds (overwritten cells (index_of spans to) values)

abbrev pub flat_copy : List Span → List Cell → List (Scalar × Guard) → Pointer → Pointer → ℕ → Result (List Cell) Trap
flat_copy spans cells shape from to count =
    copy_by (ended_in spans) (run_in spans shape) from to count (overwritten cells (index_of spans to) (run_in spans cells from count))

abbrev pub flat_cells : List Span → List Cell → List (Scalar × Guard) → Pointer → List Scalar → Result (List Cell) Trap
flat_cells spans cells shape = cells_by (ended_in spans) (run_in spans cells) (run_in spans shape)

abbrev pub flat_equality : List Span → List (Scalar × Guard) → Pointer → Pointer → Result Bool Trap
flat_equality spans shape = equality_by (λ object. (span_at spans object).count) (own_in spans shape)

-- the items begin with others
abbrev pub BeginsWith : {X : Type 0} → List X → List X → Type 0
BeginsWith items more = take (length items) more ≡ items

-- a live object was moved down to a place, where its cells end now
pub record MovesDown (spans : List Span) (cells : List Cell) (shape : List (Scalar × Guard)) (number to : ℕ)
    (spans' : List Span) (cells' : List Cell) (shape' : List (Scalar × Guard)) (end : ℕ) : Type 0 where
  pub in_spans : spans' ≡ slice_set spans number (moved_span to (span_at spans number))
  pub in_cells : cells' ≡ overwritten cells to (take (span_at spans number).count (drop (span_at spans number).first cells))
  pub in_shape : shape' ≡ overwritten shape to (take (span_at spans number).count (drop (span_at spans number).first shape))
  pub ends : end ≡ to + (span_at spans number).count

-- cells of a live object from a place on hold these values now
pub record Began (spans : List Span) (cells : List Cell) (shape : List (Scalar × Guard)) (object from : ℕ) (values cells' : List Cell) : Type 0 where
  pub alive : (span_at spans object).alive ≡ true
  pub fits : from + length values ≤ (span_at spans object).count
  pub held : RunHolds spans shape ((span_at spans object).first + from) values
  pub is : cells' ≡ overwritten cells ((span_at spans object).first + from) values

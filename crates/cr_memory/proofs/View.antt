-- What the flat store shows as a memory.
use Rattle.std.proofs.Common.{◌≡◌, ℕ, zero, suc, ◌+◌, ◌≤◌, Bool, true, false, not, is_none, is_some, ◌⊎◌, inl, inr, Some, None, List, [], ◌∷◌, map, length, get_or, take, drop, if◌then◌else◌, refl, sym, ap, ◌∙◌, subst, arith, length-drop}
use Rattle.std.proofs.lemmas.List.{length-map, length-take-le}
use Rattle.cr_memory.specs.declared.value.Pointer.{Pointer}
use Rattle.cr_memory.specs.declared.value.Pointer.TheVariants.{Null, At}
use Rattle.cr_memory.specs.declared.value.Scalar.{Scalar}
use Rattle.cr_memory.specs.declared.value.Scalar.TheVariants.{Int as IntegerKind, Pointer as PointerKind}
use Rattle.cr_memory.specs.declared.value.Cell.{Cell}
use Rattle.cr_memory.specs.declared.value.Cell.TheVariants.{Unset, Number, Pointer as PointerCell}
use Rattle.cr_memory.specs.declared.value.Guard.{Guard}
use Rattle.cr_memory.specs.declared.span.Span.{Span}
use Rattle.cr_memory.specs.Memory.{Object, Memory, IsPointer, Holds, live_object, has_ended}
use Rattle.cr_memory.specs.Access.{holds_ended}
use Rattle.cr_memory.specs.Flat.{span_at, object_of, memory_of, ended_in, held_ended_in, PointerIn, HoldsIn, HasRoom}

-- ---- lists and tests

get_or-map_default : {X Y : Type 0} (f : X → Y) (xs : List X) (i : ℕ) (d : X) (e : Y) → f d ≡ e → get_or (map f xs) i e ≡ f (get_or xs i d)
get_or-map_default f [] i d e h = sym h
get_or-map_default f (x ∷ xs) zero d e h = refl
get_or-map_default f (x ∷ xs) (suc i) d e h = get_or-map_default f xs i d e h

pub two_ways : (b : Bool) → (b ≡ true) ⊎ (b ≡ false)
two_ways true = inl refl
two_ways false = inr refl

-- ---- the object of a span

abbrev pub whole_of : List Cell → List (Scalar × Guard) → Span → Object
whole_of cells shape span = record { cells = take span.count (drop span.first cells); shape = take span.count (drop span.first shape) }

pub object_of-live : (cells : List Cell) (shape : List (Scalar × Guard)) (span : Span) → span.alive ≡ true → object_of cells shape span ≡ Some (whole_of cells shape span)
object_of-live cells shape span e = rw e refl

pub object_of-ended : (cells : List Cell) (shape : List (Scalar × Guard)) (span : Span) → span.alive ≡ false → object_of cells shape span ≡ None
object_of-ended cells shape span e = rw e refl

pub length-whole_of : (cells : List Cell) (shape : List (Scalar × Guard)) (span : Span) → span.first + span.count ≤ length cells
    → length (whole_of cells shape span).cells ≡ span.count
length-whole_of cells shape span h = length-take-le span.count (drop span.first cells) (omega (arith, length-drop span.first cells))

pub live_object-memory_of : (most : ℕ) (spans : List Span) (cells : List Cell) (shape : List (Scalar × Guard)) (number : ℕ)
    → live_object (memory_of most spans cells shape) number ≡ object_of cells shape (span_at spans number)
live_object-memory_of most spans cells shape number = get_or-map_default (object_of cells shape) spans number _ None refl

none_if : {X : Type 0} (b : Bool) (x : X) → is_none (if b then Some x else None) ≡ not b
none_if true x = refl
none_if false x = refl

some_if : {X : Type 0} (b : Bool) (x : X) → is_some (if b then Some x else None) ≡ b
some_if true x = refl
some_if false x = refl

pub lives-memory_of : (most : ℕ) (spans : List Span) (cells : List Cell) (shape : List (Scalar × Guard)) (number : ℕ)
    → is_some (live_object (memory_of most spans cells shape) number) ≡ (span_at spans number).alive
lives-memory_of most spans cells shape number =
    ap is_some (live_object-memory_of most spans cells shape number) ∙ some_if (span_at spans number).alive (whole_of cells shape (span_at spans number))

pub has_ended-memory_of : (most : ℕ) (spans : List Span) (cells : List Cell) (shape : List (Scalar × Guard)) (pointer : Pointer)
    → has_ended (memory_of most spans cells shape) pointer ≡ ended_in spans pointer
has_ended-memory_of most spans cells shape Null = refl
has_ended-memory_of most spans cells shape (At object cell low high stride) =
    ap is_none (live_object-memory_of most spans cells shape object) ∙ none_if (span_at spans object).alive (whole_of cells shape (span_at spans object))

pub holds_ended-memory_of : (most : ℕ) (spans : List Span) (cells : List Cell) (shape : List (Scalar × Guard)) (cell : Cell)
    → holds_ended (memory_of most spans cells shape) cell ≡ held_ended_in spans cell
holds_ended-memory_of most spans cells shape Unset = refl
holds_ended-memory_of most spans cells shape (Number value) = refl
holds_ended-memory_of most spans cells shape (PointerCell pointer) = has_ended-memory_of most spans cells shape pointer

-- ---- pointers of the memory and of the spans

pub pointer_in : (most : ℕ) (spans : List Span) (cells : List Cell) (shape : List (Scalar × Guard)) (pointer : Pointer)
    → HasRoom spans (length cells) → IsPointer (memory_of most spans cells shape) pointer → PointerIn spans pointer
pointer_in most spans cells shape Null room h = tt
pointer_in most spans cells shape (At object cell low high stride) room h = record {
  entered = rw (length-map spans (object_of cells shape)) at h.entered;
  stride_above = h.stride_above;
  low_before = h.low_before;
  high_after = h.high_after;
  whole_before = h.whole_before;
  whole_after = h.whole_after;
  within = λ alive. rw (length-whole_of cells shape (span_at spans object) (room.within object alive)) at
      (h.within (whole_of cells shape (span_at spans object)) (live_object-memory_of most spans cells shape object ∙ object_of-live cells shape (span_at spans object) alive));
}

fits_by : (cells : List Cell) (shape : List (Scalar × Guard)) (span : Span) (high : ℕ) (live : Object) → (span.alive ≡ true) ⊎ (span.alive ≡ false)
    → (span.alive ≡ true → span.first + span.count ≤ length cells) → (span.alive ≡ true → high ≤ span.count)
    → object_of cells shape span ≡ Some live → high ≤ length live.cells
fits_by cells shape span high live (inl alive) room within e =
    let same : whole_of cells shape span ≡ live = cc (object_of-live cells shape span alive) in
    let size = length-whole_of cells shape span (room alive) in
    let w = within alive in
    omega (arith, ap (λ x. length x.cells) same)
fits_by cells shape span high live (inr ended) room within e = absurd (cc (object_of-ended cells shape span ended))

pub is_pointer : (most : ℕ) (spans : List Span) (cells : List Cell) (shape : List (Scalar × Guard)) (pointer : Pointer)
    → HasRoom spans (length cells) → PointerIn spans pointer → IsPointer (memory_of most spans cells shape) pointer
is_pointer most spans cells shape Null room h = tt
is_pointer most spans cells shape (At object cell low high stride) room h = record {
  entered = rw (length-map spans (object_of cells shape)) h.entered;
  stride_above = h.stride_above;
  low_before = h.low_before;
  high_after = h.high_after;
  whole_before = h.whole_before;
  whole_after = h.whole_after;
  within = λ live e. fits_by cells shape (span_at spans object) high live (two_ways _) (room.within object) h.within
      (sym (live_object-memory_of most spans cells shape object) ∙ e);
}

pub holds : (most : ℕ) (spans : List Span) (cells : List Cell) (shape : List (Scalar × Guard)) (kind : Scalar) (cell : Cell)
    → HasRoom spans (length cells) → HoldsIn spans kind cell → Holds (memory_of most spans cells shape) kind cell
holds most spans cells shape kind Unset room h = tt
holds most spans cells shape (IntegerKind kind) (Number value) room h = h
holds most spans cells shape (IntegerKind kind) (PointerCell pointer) room h = absurd h
holds most spans cells shape (PointerKind to) (Number value) room h = absurd h
holds most spans cells shape (PointerKind to) (PointerCell pointer) room h = is_pointer most spans cells shape pointer room h

pub holds_in : (most : ℕ) (spans : List Span) (cells : List Cell) (shape : List (Scalar × Guard)) (kind : Scalar) (cell : Cell)
    → HasRoom spans (length cells) → Holds (memory_of most spans cells shape) kind cell → HoldsIn spans kind cell
holds_in most spans cells shape kind Unset room h = tt
holds_in most spans cells shape (IntegerKind kind) (Number value) room h = h
holds_in most spans cells shape (IntegerKind kind) (PointerCell pointer) room h = absurd h
holds_in most spans cells shape (PointerKind to) (Number value) room h = absurd h
holds_in most spans cells shape (PointerKind to) (PointerCell pointer) room h = pointer_in most spans cells shape pointer room h

-- the same of a memory that the store shows
pub pointer_seen : (most : ℕ) (spans : List Span) (cells : List Cell) (shape : List (Scalar × Guard)) (memory : Memory) (pointer : Pointer)
    → memory_of most spans cells shape ≡ memory → HasRoom spans (length cells) → IsPointer memory pointer → PointerIn spans pointer
pointer_seen most spans cells shape memory pointer view room h = pointer_in most spans cells shape pointer room (rw view h)

pub holds_seen : (most : ℕ) (spans : List Span) (cells : List Cell) (shape : List (Scalar × Guard)) (memory : Memory) (kind : Scalar) (cell : Cell)
    → memory_of most spans cells shape ≡ memory → HasRoom spans (length cells) → Holds memory kind cell → HoldsIn spans kind cell
holds_seen most spans cells shape memory kind cell view room h =
    let P : Memory → Type 0 = λ m. Holds m kind cell in holds_in most spans cells shape kind cell room (subst P (sym view) h)

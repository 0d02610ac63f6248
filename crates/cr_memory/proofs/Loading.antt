-- What is saved is loaded; and what the store holds.
use Rattle.std.proofs.Common.{◌≡◌, ◌≢◌, ℕ, zero, suc, ◌+◌, ◌<◌, ◌≤◌, Bool, true, false, is_none, ◌⊎◌, inl, inr, Option, Some, None, Ok, List, [], ◌∷◌, map, length, get_or, set, take, drop, refl, sym, ap, ◌∙◌, subst, arith, get_or-set_other, get_or-set_same}
use Rattle.std.proofs.lemmas.Bool.{leb-false}
use Rattle.std.proofs.lemmas.List.{drop_more}
use Rattle.cr_memory.specs.declared.value.Pointer.{Pointer}
use Rattle.cr_memory.specs.declared.value.Pointer.TheVariants.{Null, At}
use Rattle.cr_memory.specs.declared.value.Scalar.{Scalar}
use Rattle.cr_memory.specs.declared.value.Scalar.TheVariants.{Pointer as PointerKind}
use Rattle.cr_memory.specs.declared.value.Cell.{Cell}
use Rattle.cr_memory.specs.declared.value.Cell.TheVariants.{Unset, Number, Pointer as PointerCell}
use Rattle.cr_memory.specs.declared.value.Guard.{Guard}
use Rattle.cr_memory.specs.declared.value.Guard.TheVariants.{Free}
use Rattle.cr_memory.specs.declared.span.Span.{Span}
use Rattle.cr_memory.specs.Memory.{Object, Memory, IsPointer, AllHold, live_object, has_ended}
use Rattle.cr_memory.specs.Access.{is_null_or_end, is_unset, is_literal, is_constant, holds_ended, shape_at, some_object, with_cells, writing, load_of, save_of}
use Rattle.cr_memory.specs.Kind.{is_same}
use Rattle.cr_memory.specs.Laws.{HoldsKinds}
use Rattle.cr_memory.specs.Flat.{span_at, object_of, memory_of, cell_or, shape_or, IsStored}
use Rattle.cr_memory.proofs.View.{two_ways, whole_of, object_of-live, object_of-ended, live_object-memory_of, holds}
use Rattle.cr_memory.proofs.Writing.{same_or_not}

-- ---- a write that was done

record WasWritten {A : Type 0} (ended end same : Bool) (left new : A) : Type 0 where
  live : ended ≡ false
  inside : end ≡ false
  kind : same ≡ true
  is : left ≡ new

was_written : {A : Type 0} (ended end literal constant same : Bool) (left new : A) → writing ended end literal constant same left ≡ Ok new → WasWritten ended end same left new
was_written true end literal constant same left new e = absurd (cc e)
was_written false true literal constant same left new e = absurd (cc e)
was_written false false true constant same left new e = absurd (cc e)
was_written false false false true same left new e = absurd (cc e)
was_written false false false false false left new e = absurd (cc e)
was_written false false false false true left new e = record { live = refl; inside = refl; kind = refl; is = cc e }

-- ---- the same pointer loads it

there : (object : Option Object) → is_none object ≡ false → (live : Object) × (object ≡ Some live)
there None e = absurd (cc e)
there (Some live) e = (live, refl)

-- no object that lived has ended by a write to one that lives
still_lives : (objects : List (Option Object)) (object number : ℕ) (written : Object) → object < length objects → (number ≡ object) ⊎ (number ≢ object)
    → is_none (get_or objects number None) ≡ false → is_none (get_or (set objects object (Some written)) number None) ≡ false
still_lives objects object number written h (inl e) live = rw (e, get_or-set_same objects object (Some written) None h) refl
still_lives objects object number written h (inr other) live = rw (get_or-set_other objects object number (Some written) None other) live

still_held : (memory : Memory) (object place : ℕ) (vs : List Cell) (value : Cell) → object < length memory.objects → holds_ended memory value ≡ false
    → holds_ended (with_cells memory object place vs) value ≡ false
still_held memory object place vs Unset h live = refl
still_held memory object place vs (Number n) h live = refl
still_held memory object place vs (PointerCell Null) h live = refl
still_held memory object place vs (PointerCell (At number cell low high stride)) h live = still_lives memory.objects object number _ h (same_or_not number object) live

pub saved-loaded : (old new : Memory) (at : Pointer) (kind : Scalar) (value : Cell) → IsPointer old at → is_unset value ≡ false → holds_ended old value ≡ false
    → save_of old at kind value ≡ Ok new → load_of new at kind ≡ Ok value
saved-loaded old new Null kind value h is_set held e = absurd (cc e)
saved-loaded old new (At object cell low high stride) kind value h is_set held e =
    let own = shape_at old (At object cell low high stride) in
    let w = was_written (is_none (live_object old object)) (is_null_or_end (At object cell low high stride)) (is_literal own.1) (is_constant own.1) (is_same own.0 kind) _ new e in
    let free : Scalar × Guard = (PointerKind 0, Free) in
    let live = there (live_object old object) w.live in
    let before : Object = some_object (live_object old object) in
    let written : Object = record { cells = set before.cells cell value; shape = before.shape } in
    let now : live_object new object ≡ Some written =
    ap (λ m. live_object m object) (sym w.is) ∙ get_or-set_same old.objects object (Some written) None h.entered in
    let size : length before.cells ≡ length live.0.cells = ap (λ o. length (some_object o).cells) live.1 in
    let below : cell < high = leb-false high cell w.inside in
    let fits = h.within live.0 live.1 in
    let e1 : has_ended new (At object cell low high stride) ≡ false = ap is_none now in
    let e3 : get_or (some_object (live_object new object)).cells cell Unset ≡ value =
    ap (λ o. get_or (some_object o).cells cell Unset) now ∙ get_or-set_same before.cells cell value Unset (omega arith) in
    let e4 : holds_ended new value ≡ false = ap (λ m. holds_ended m value) (sym w.is) ∙ still_held old object cell (value ∷ []) value h.entered held in
    let e5 : is_same (shape_at new (At object cell low high stride)).0 kind ≡ true =
    ap (λ o. is_same (get_or (some_object o).shape cell free).0 kind) now ∙ w.kind in
    rw (e1, w.inside, e3, e4, e5, is_set) refl

-- ---- what the store holds

own_hold : (most live : ℕ) (spans : List Span) (cells : List Cell) (shape : List (Scalar × Guard)) (count index : ℕ)
    → IsStored most live spans cells shape → index + count ≤ length cells
    → AllHold (memory_of most spans cells shape) (map (λ own. own.0) (take count (drop index shape))) (take count (drop index cells))
own_hold most live spans cells shape zero index s room = tt
own_hold most live spans cells shape (suc count) index s room =
    let free : Scalar × Guard = (PointerKind 0, Free) in
    let first_cell = drop_more cells index Unset (omega arith) in
    let first_shape = drop_more shape index free (omega (arith, s.same_length)) in
    rw (first_cell, first_shape) (
      holds most spans cells shape (shape_or shape index).0 (cell_or cells index) s.room (s.holds index (omega arith)),
      own_hold most live spans cells shape count (index + 1) s (omega arith),
    )

held_by : (most live : ℕ) (spans : List Span) (cells : List Cell) (shape : List (Scalar × Guard)) (object : ℕ) (there : Object)
    → IsStored most live spans cells shape → ((span_at spans object).alive ≡ true) ⊎ ((span_at spans object).alive ≡ false)
    → object_of cells shape (span_at spans object) ≡ Some there
    → AllHold (memory_of most spans cells shape) (map (λ own. own.0) there.shape) there.cells
held_by most live spans cells shape object there s (inl alive) e =
    let span = span_at spans object in
    let same : whole_of cells shape span ≡ there = cc (object_of-live cells shape span alive, e) in
    let P : Object → Type 0 = λ o. AllHold (memory_of most spans cells shape) (map (λ own. own.0) o.shape) o.cells in
    subst P same (own_hold most live spans cells shape span.count span.first s (s.room.within object alive))
held_by most live spans cells shape object there s (inr ended) e = absurd (cc (object_of-ended cells shape (span_at spans object) ended, e))

pub holds-kinds : (most live : ℕ) (spans : List Span) (cells : List Cell) (shape : List (Scalar × Guard)) → IsStored most live spans cells shape
    → HoldsKinds (memory_of most spans cells shape)
holds-kinds most live spans cells shape s object there e =
    held_by most live spans cells shape object there s (two_ways _) (sym (live_object-memory_of most spans cells shape object) ∙ e)

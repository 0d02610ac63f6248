-- What is written to the flat store is what the memory's operations give.
use Rattle.std.proofs.Common.{◌≡◌, ◌≢◌, ℕ, zero, suc, ◌+◌, ◌-◌, ◌<◌, ◌≤◌, true, false, ◌⊎◌, inl, inr, Option, Some, List, [], ◌∷◌, map, length, get_or, set, take, drop, refl, sym, ap, ◌∙◌, subst, arith, length-set, get_or-set_other, get_or-set_same}
use Rattle.std.proofs.lemmas.List.{get_or-take, get_or-drop, drop-set-lt, drop-set-add, take-set-le}
use Rattle.std.proofs.Math.Seq.{take-set-lt}
use Rattle.cr_memory.specs.declared.value.Scalar.{Scalar}
use Rattle.cr_memory.specs.declared.value.Scalar.TheVariants.{Pointer as PointerKind}
use Rattle.cr_memory.specs.declared.value.Cell.{Cell}
use Rattle.cr_memory.specs.declared.value.Cell.TheVariants.{Unset}
use Rattle.cr_memory.specs.declared.value.Guard.{Guard}
use Rattle.cr_memory.specs.declared.value.Guard.TheVariants.{Free}
use Rattle.cr_memory.specs.declared.span.Span.{Span}
use Rattle.cr_memory.specs.Memory.{Object, Memory, Holds, KeepsPointers, live_object, count_of}
use Rattle.cr_memory.specs.Access.{overwritten, some_object, shape_in, with_cells}
use Rattle.cr_memory.specs.Flat.{ended_span, span_at, object_of, memory_of, shape_or, cell_or, HoldsIn, HasRoom, IsStored, RunHolds}
use Rattle.cr_memory.proofs.View.{two_ways, whole_of, length-whole_of, object_of-live, object_of-ended, live_object-memory_of, pointer_in, is_pointer, holds_in}

-- ---- a window of a list that is written over

window-set_same : {X : Type 0} (xs : List X) (first size place : ℕ) (x : X) → place < size
    → take size (drop first (set xs (first + place) x)) ≡ set (take size (drop first xs)) place x
window-set_same xs first size place x h =
    ap (take size) (drop-set-add first xs place x) ∙ take-set-lt size (drop first xs) place x h

window-set_before : {X : Type 0} (xs : List X) (first size place : ℕ) (x : X) → place < first
    → take size (drop first (set xs place x)) ≡ take size (drop first xs)
window-set_before xs first size place x h = ap (take size) (drop-set-lt first xs place x h)

window-set_after : {X : Type 0} (xs : List X) (first size place : ℕ) (x : X) → first + size ≤ place
    → take size (drop first (set xs place x)) ≡ take size (drop first xs)
window-set_after xs first size place x h =
    let from : place ≡ first + (place - first) = omega arith in
    ap (λ n. take size (drop first (set xs n x))) from
    ∙ ap (take size) (drop-set-add first xs (place - first) x)
    ∙ take-set-le size (drop first xs) (place - first) x (omega arith)

pub window-overwritten_same : {X : Type 0} (xs : List X) (first size place : ℕ) (vs : List X) → place + length vs ≤ size
    → take size (drop first (overwritten xs (first + place) vs)) ≡ overwritten (take size (drop first xs)) place vs
window-overwritten_same xs first size place [] h = refl
window-overwritten_same xs first size place (v ∷ vs) h =
    let next : suc (first + place) ≡ first + suc place = omega arith in
    ap (λ n. take size (drop first (overwritten (set xs (first + place) v) n vs))) next
    ∙ window-overwritten_same (set xs (first + place) v) first size (suc place) vs (omega arith)
    ∙ ap (λ ys. overwritten ys (suc place) vs) (window-set_same xs first size place v (omega arith))

-- a window that ends before, or begins after, what is written
pub window-overwritten_other : {X : Type 0} (xs : List X) (first size place : ℕ) (vs : List X) → (place + length vs ≤ first) ⊎ (first + size ≤ place)
    → take size (drop first (overwritten xs place vs)) ≡ take size (drop first xs)
window-overwritten_other xs first size place [] h = refl
window-overwritten_other xs first size place (v ∷ vs) (inl h) =
    window-overwritten_other (set xs place v) first size (suc place) vs (inl (omega arith)) ∙ window-set_before xs first size place v (omega arith)
window-overwritten_other xs first size place (v ∷ vs) (inr h) =
    window-overwritten_other (set xs place v) first size (suc place) vs (inr (omega arith)) ∙ window-set_after xs first size place v h

-- ---- one element of a map changes

pub map-same : {X Y : Type 0} (f g : X → Y) (xs : List X) (d : X) → ((j : ℕ) → j < length xs → g (get_or xs j d) ≡ f (get_or xs j d)) → map g xs ≡ map f xs
map-same f g [] d h = refl
map-same f g (x ∷ xs) d h =
    ap (λ y. y ∷ map g xs) (h 0 (omega arith)) ∙ ap (λ ys. f x ∷ ys) (map-same f g xs d (λ j b. h (suc j) (omega arith)))

pub map-except : {X Y : Type 0} (f g : X → Y) (xs : List X) (i : ℕ) (d : X) → i < length xs
    → ((j : ℕ) → j < length xs → j ≢ i → g (get_or xs j d) ≡ f (get_or xs j d)) → map g xs ≡ set (map f xs) i (g (get_or xs i d))
map-except f g [] i d b h = absurd (omega arith)
map-except f g (x ∷ xs) zero d b h = ap (λ ys. g x ∷ ys) (map-same f g xs d (λ j c. h (suc j) (omega arith) (omega arith)))
map-except f g (x ∷ xs) (suc i) d b h =
    ap (λ y. y ∷ map g xs) (h 0 (omega arith) (omega arith))
    ∙ ap (λ ys. f x ∷ ys) (map-except f g xs i d (omega arith) (λ j c n. h (suc j) (omega arith) (omega arith)))

-- ---- the memory that an overwritten store shows

other_object : (cells written : List Cell) (shape : List (Scalar × Guard)) (span : Span) → (span.alive ≡ true) ⊎ (span.alive ≡ false)
    → (span.alive ≡ true → take span.count (drop span.first written) ≡ take span.count (drop span.first cells))
    → object_of written shape span ≡ object_of cells shape span
other_object cells written shape span (inl alive) h =
    object_of-live written shape span alive
    ∙ ap (λ xs. let o : Object = record { cells = xs; shape = take span.count (drop span.first shape) } in Some o) (h alive)
    ∙ sym (object_of-live cells shape span alive)
other_object cells written shape span (inr ended) h = object_of-ended written shape span ended ∙ sym (object_of-ended cells shape span ended)

-- which of two numbers is the lesser
pub lesser : (m n : ℕ) → m ≢ n → (m < n) ⊎ (n < m)
lesser zero zero h = absurd (h refl)
lesser zero (suc n) h = inl (omega arith)
lesser (suc m) zero h = inr (omega arith)
lesser (suc m) (suc n) h = elim (lesser m n (λ e. h (ap suc e))) [ inl l ↦ inl (omega arith) | inr r ↦ inr (omega arith) ]

apart_by : (spans : List Span) (left right place size : ℕ) → (left < right) ⊎ (right < left)
    → ((m n : ℕ) → m < n → (span_at spans m).alive ≡ true → (span_at spans n).alive ≡ true → (span_at spans m).first + (span_at spans m).count ≤ (span_at spans n).first)
    → (span_at spans left).alive ≡ true → (span_at spans right).alive ≡ true → place + size ≤ (span_at spans right).count
    → ((span_at spans right).first + place + size ≤ (span_at spans left).first) ⊎ ((span_at spans left).first + (span_at spans left).count ≤ (span_at spans right).first + place)
apart_by spans left right place size (inl l) apart a b h = let e = apart left right l a b in inr (omega arith)
apart_by spans left right place size (inr r) apart a b h = let e = apart right left r b a in inl (omega arith)

pub memory_of-overwritten : (most live : ℕ) (spans : List Span) (cells : List Cell) (shape : List (Scalar × Guard)) (number place : ℕ) (vs : List Cell)
    → IsStored most live spans cells shape → number < length spans → (span_at spans number).alive ≡ true → place + length vs ≤ (span_at spans number).count
    → memory_of most spans (overwritten cells ((span_at spans number).first + place) vs) shape ≡ with_cells (memory_of most spans cells shape) number place vs
memory_of-overwritten most live spans cells shape number place vs s entered alive fits =
    let span = span_at spans number in
    let written = overwritten cells (span.first + place) vs in
    let objects = map-except (object_of cells shape) (object_of written shape) spans number ended_span entered
    (λ j b n. other_object cells written shape (span_at spans j) (two_ways _)
    (λ a. window-overwritten_other cells (span_at spans j).first (span_at spans j).count (span.first + place) vs
    (apart_by spans j number place (length vs) (lesser j number n) s.apart a alive fits))) in
    let own : object_of written shape span ≡ Some (record { cells = overwritten (whole_of cells shape span).cells place vs; shape = (whole_of cells shape span).shape }) =
    object_of-live written shape span alive
    ∙ ap (λ xs. let o : Object = record { cells = xs; shape = (whole_of cells shape span).shape } in Some o) (window-overwritten_same cells span.first span.count place vs fits) in
    let whole : some_object (live_object (memory_of most spans cells shape) number) ≡ whole_of cells shape span =
    ap some_object (live_object-memory_of most spans cells shape number ∙ object_of-live cells shape span alive) in
    let object : Object → Option Object = λ x. Some (record { cells = overwritten x.cells place vs; shape = x.shape }) in
    ap (λ xs. let m : Memory = record { most = most; objects = xs } in m)
    (objects ∙ ap (λ o. set (map (object_of cells shape) spans) number o) (own ∙ ap object (sym whole)))

-- ---- the store after a write

pub stored_with : (most live : ℕ) (spans : List Span) (cells written : List Cell) (shape : List (Scalar × Guard))
    → IsStored most live spans cells shape → length written ≡ length cells
    → ((i : ℕ) → i < length cells → HoldsIn spans (shape_or shape i).0 (cell_or written i)) → IsStored most live spans written shape
stored_with most live spans cells written shape s size h = record {
  same_length = s.same_length ∙ sym size;
  room = record { within = λ n a. rw size (s.room.within n a) };
  apart = s.apart;
  counted = s.counted;
  at_most = s.at_most;
  holds = λ i b. h i (rw size at b);
}

pub same_pointers : (most : ℕ) (spans : List Span) (cells written : List Cell) (shape : List (Scalar × Guard)) → HasRoom spans (length cells)
    → length written ≡ length cells → KeepsPointers (memory_of most spans cells shape) (memory_of most spans written shape)
same_pointers most spans cells written shape room size = record {
  kept = λ p h. is_pointer most spans written shape p (record { within = λ n a. rw size (room.within n a) }) (pointer_in most spans cells shape p room h);
}

held_set : (spans : List Span) (cells : List Cell) (shape : List (Scalar × Guard)) (place i : ℕ) (value : Cell) → (i ≡ place) ⊎ (i ≢ place) → i < length cells
    → HoldsIn spans (shape_or shape i).0 (cell_or cells i) → HoldsIn spans (shape_or shape place).0 value
    → HoldsIn spans (shape_or shape i).0 (cell_or (set cells place value) i)
held_set spans cells shape place i value (inl e) b old new =
    let at : get_or (set cells i value) i Unset ≡ value = get_or-set_same cells i value Unset b in
    rw (← e, at) (rw (← e) at new)
held_set spans cells shape place i value (inr n) b old new =
    rw (get_or-set_other cells place i value Unset n) old

pub same_or_not : (m n : ℕ) → (m ≡ n) ⊎ (m ≢ n)
same_or_not zero zero = inl refl
same_or_not zero (suc n) = inr (λ e. cc e)
same_or_not (suc m) zero = inr (λ e. cc e)
same_or_not (suc m) (suc n) = elim (same_or_not m n) [ inl e ↦ inl (ap suc e) | inr h ↦ inr (λ e. h (cc e)) ]

pub held_overwritten : (spans : List Span) (cells : List Cell) (shape : List (Scalar × Guard)) (place : ℕ) (vs : List Cell)
    → ((i : ℕ) → i < length cells → HoldsIn spans (shape_or shape i).0 (cell_or cells i)) → RunHolds spans shape place vs
    → (i : ℕ) → i < length cells → HoldsIn spans (shape_or shape i).0 (cell_or (overwritten cells place vs) i)
held_overwritten spans cells shape place [] h r i b = h i b
held_overwritten spans cells shape place (v ∷ vs) h r i b =
    held_overwritten spans (set cells place v) shape (suc place) vs
    (λ j c. let d : j < length cells = omega (arith, length-set cells place v) in held_set spans cells shape place j v (same_or_not j place) d (h j d) r.0)
    r.1 i (omega (arith, length-set cells place v))

-- ---- a live cell

pub entered_if_alive : (spans : List Span) (number : ℕ) → (span_at spans number).alive ≡ true → number < length spans
entered_if_alive [] number e = absurd (cc e)
entered_if_alive (s ∷ spans) zero e = omega arith
entered_if_alive (s ∷ spans) (suc number) e = let h = entered_if_alive spans number e in omega arith

pub record LiveCell (spans : List Span) (cells : List Cell) (number place : ℕ) : Type 0 where
  pub entered : number < length spans
  pub alive : (span_at spans number).alive ≡ true
  pub below : place < (span_at spans number).count
  pub inside : (span_at spans number).first + place < length cells

live_by : (most : ℕ) (spans : List Span) (cells : List Cell) (shape : List (Scalar × Guard)) (number place : ℕ) → HasRoom spans (length cells)
    → ((span_at spans number).alive ≡ true) ⊎ ((span_at spans number).alive ≡ false)
    → place < count_of (live_object (memory_of most spans cells shape) number) → LiveCell spans cells number place
live_by most spans cells shape number place room (inl a) h =
    let e = ap count_of (live_object-memory_of most spans cells shape number ∙ object_of-live cells shape (span_at spans number) a) in
    let n = length-whole_of cells shape (span_at spans number) (room.within number a) in
    let w = room.within number a in
    let b : place < (span_at spans number).count = omega arith in
    record { entered = entered_if_alive spans number a; alive = a; below = b; inside = omega arith }
live_by most spans cells shape number place room (inr d) h =
    let e = ap count_of (live_object-memory_of most spans cells shape number ∙ object_of-ended cells shape (span_at spans number) d) in
    absurd (omega arith)

pub live_cell : (most : ℕ) (spans : List Span) (cells : List Cell) (shape : List (Scalar × Guard)) (memory : Memory) (number place : ℕ)
    → memory_of most spans cells shape ≡ memory → HasRoom spans (length cells)
    → place < count_of (live_object memory number) → LiveCell spans cells number place
live_cell most spans cells shape memory number place view room h =
    let P : Memory → Type 0 = λ m. place < count_of (live_object m number) in
    live_by most spans cells shape number place room (two_ways _) (subst P (sym view) h)

-- the kind of a live cell
pub kind_of_live : (most : ℕ) (spans : List Span) (cells : List Cell) (shape : List (Scalar × Guard)) (number place : ℕ) → LiveCell spans cells number place
    → shape_in (memory_of most spans cells shape) number place ≡ shape_or shape ((span_at spans number).first + place)
kind_of_live most spans cells shape number place c =
    let span = span_at spans number in
    let free : Scalar × Guard = (PointerKind 0, Free) in
    ap (λ x. get_or x.shape place free) (ap some_object (live_object-memory_of most spans cells shape number ∙ object_of-live cells shape span c.alive))
    ∙ get_or-take span.count (drop span.first shape) place free c.below ∙ get_or-drop span.first shape place free

-- a value for a live cell, as the flat store has its kind
pub held_by_live : (most : ℕ) (spans : List Span) (cells : List Cell) (shape : List (Scalar × Guard)) (memory : Memory) (number place : ℕ) (value : Cell)
    → memory_of most spans cells shape ≡ memory → HasRoom spans (length cells) → LiveCell spans cells number place
    → Holds memory (shape_in memory number place).0 value → HoldsIn spans (shape_or shape ((span_at spans number).first + place)).0 value
held_by_live most spans cells shape memory number place value view room live h =
    let P : Memory → Type 0 = λ m. Holds m (shape_in m number place).0 value in
    let Q : Scalar × Guard → Type 0 = λ k. HoldsIn spans k.0 value in
    subst Q (kind_of_live most spans cells shape number place live)
    (holds_in most spans cells shape (shape_in (memory_of most spans cells shape) number place).0 value room (subst P (sym view) h))

-- before, at or after
pub three_ways : (m n : ℕ) → (m < n) ⊎ ((m ≡ n) ⊎ (n < m))
three_ways m n = by_test (same_or_not m n)
  where
    by_test : (m ≡ n) ⊎ (m ≢ n) → (m < n) ⊎ ((m ≡ n) ⊎ (n < m))
    by_test (inl e) = inr (inl e)
    by_test (inr h) = elim (lesser m n h) [ inl l ↦ inl l | inr r ↦ inr (inr r) ]

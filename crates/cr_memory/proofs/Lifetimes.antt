-- Entering and leaving: the store stays well formed, and shows the memory with the object entered or ended.
use Rattle.std.proofs.Common.{zero-add, ◌≡◌, ℕ, suc, ◌+◌, ◌-◌, ◌<◌, ◌≤◌, Bool, true, false, nat_le, nat_lt, ◌&&◌, ◌⊎◌, inl, inr, Option, Some, List, [], ◌∷◌, ◌++◌, map, length, get_or, take, drop, pos, refl, sym, ap, ◌∙◌, arith, length-append, length-drop}
use Rattle.std.specs.Prelude.{sum_by}
use Rattle.std.proofs.lemmas.Bool.{cases_lt, leb-true, le-leb}
use Rattle.std.proofs.lemmas.Int.{ints}
use Rattle.std.proofs.lemmas.List.{length-map, map-append, get_or_append_left, get_or_push, get_or_past, get_or-append_right, length_push, take-append-le, drop-append-le, drop_at, take_all, get_or-map}
use Rattle.std.proofs.lemmas.List.Sums.{sum_by-append}
use Rattle.cr_ints.specs.declared.kind.IntKind.{IntKind}
use Rattle.cr_ints.specs.declared.kind.IntKind.TheVariants.{Bool as BoolKind, Char, SChar, UChar, Short, UShort, Int, UInt, Long, ULong, LLong, ULLong}
use Rattle.cr_ints.specs.IntKind.{Represents}
use Rattle.cr_memory.specs.declared.value.Pointer.{Pointer}
use Rattle.cr_memory.specs.declared.value.Pointer.TheVariants.{Null, At}
use Rattle.cr_memory.specs.declared.value.Scalar.{Scalar}
use Rattle.cr_memory.specs.declared.value.Scalar.TheVariants.{Int as IntegerKind, Pointer as PointerKind}
use Rattle.cr_memory.specs.declared.value.Cell.{Cell}
use Rattle.cr_memory.specs.declared.value.Cell.TheVariants.{Unset, Number, Pointer as PointerCell}
use Rattle.cr_memory.specs.declared.value.Guard.{Guard}
use Rattle.cr_memory.specs.declared.value.Guard.TheVariants.{Free}
use Rattle.cr_memory.specs.declared.span.Span.{Span}
use Rattle.cr_memory.specs.Memory.{Object, Memory, KeepsPointers, count_of, live_cells, has_room, first_cell, new_object, with_object}
use Rattle.cr_memory.specs.Flat.{ended_span, span_at, object_of, memory_of, shape_or, cell_or, PointerIn, HoldsIn, HasRoom, span_count, span_of, IsStored}
use Rattle.cr_memory.proofs.View.{two_ways, length-whole_of, object_of-live, object_of-ended, pointer_in, is_pointer}
use Rattle.cr_memory.proofs.Writing.{map-same, three_ways}

-- ---- the cells that live

sum_by-cons : {X : Type 0} (f : X → ℕ) (x : X) (xs : List X) → sum_by f (x ∷ xs) ≡ f x + sum_by f xs
sum_by-cons f x xs = sum_by-append f (x ∷ []) xs ∙ ap (λ n. n + sum_by f xs) (zero-add (f x))

sum_by-map : {X Y : Type 0} (f : X → Y) (c : Y → ℕ) (e : X → ℕ) (xs : List X) (d : X) → ((j : ℕ) → j < length xs → c (f (get_or xs j d)) ≡ e (get_or xs j d))
    → sum_by c (map f xs) ≡ sum_by e xs
sum_by-map f c e [] d h = refl
sum_by-map f c e (x ∷ xs) d h =
    sum_by-cons c (f x) (map f xs) ∙ ap (λ n. n + sum_by c (map f xs)) (h 0 (omega arith))
    ∙ ap (λ n. e x + n) (sum_by-map f c e xs d (λ j b. h (suc j) (omega arith))) ∙ sym (sum_by-cons e x xs)

count_by : (cells : List Cell) (shape : List (Scalar × Guard)) (span : Span) → (span.alive ≡ true) ⊎ (span.alive ≡ false)
    → (span.alive ≡ true → span.first + span.count ≤ length cells) → count_of (object_of cells shape span) ≡ span_count span
count_by cells shape span (inl a) room = rw a (length-whole_of cells shape span (room a))
count_by cells shape span (inr d) room = rw d refl

pub live_cells-memory_of : (most : ℕ) (spans : List Span) (cells : List Cell) (shape : List (Scalar × Guard)) → HasRoom spans (length cells)
    → live_cells (memory_of most spans cells shape) ≡ sum_by span_count spans
live_cells-memory_of most spans cells shape room =
    sum_by-map (object_of cells shape) count_of span_count spans ended_span (λ j b. count_by cells shape (span_at spans j) (two_ways _) (room.within j))

pub has_room-memory_of : (most live : ℕ) (spans : List Span) (cells : List Cell) (shape : List (Scalar × Guard)) (count : ℕ) → IsStored most live spans cells shape
    → (nat_le (live + count) most && nat_lt (length spans) 4294967295) ≡ has_room (memory_of most spans cells shape) count
has_room-memory_of most live spans cells shape count s =
    ap (λ n. nat_le (n + count) most && nat_lt (length spans) 4294967295) (s.counted ∙ sym (live_cells-memory_of most spans cells shape s.room))
    ∙ ap (λ n. nat_le (live_cells (memory_of most spans cells shape) + count) most && nat_lt n 4294967295) (sym (length-map spans (object_of cells shape)))

-- a test of the room for so many cells, of which a count is known that is exact where it can be
same_tests : (a b c d : ℕ) (p q : Bool) → nat_le a b ≡ p → nat_le c d ≡ q → (a ≤ b → c ≤ d) → (c ≤ d → a ≤ b) → nat_le a b ≡ nat_le c d
same_tests a b c d true true e f on back = e ∙ sym f
same_tests a b c d true false e f on back = absurd (cc (f, le-leb c d (on (leb-true a b e))))
same_tests a b c d false true e f on back = absurd (cc (e, le-leb a b (back (leb-true c d f))))
same_tests a b c d false false e f on back = e ∙ sym f

fits_by : (live most count cells : ℕ) → live ≤ most → (cells < 4294967296) ⊎ (4294967296 ≤ cells) → most < 4294967296
    → (cells < 4294967296 → count ≡ cells) → (4294967296 ≤ cells → 4294967296 ≤ count)
    → (count ≤ most - live → live + cells ≤ most) × (live + cells ≤ most → count ≤ most - live)
fits_by live most count cells few (inl small) h exact large = let e = exact small in (λ f. omega arith, λ f. omega arith)
fits_by live most count cells few (inr many) h exact large = let e = large many in (λ f. absurd (omega arith), λ f. absurd (omega arith))

pub room_alike : (live most count cells : ℕ) → live ≤ most → most < 4294967296
    → (cells < 4294967296 → count ≡ cells) → (4294967296 ≤ cells → 4294967296 ≤ count) → nat_le count (most - live) ≡ nat_le (live + cells) most
room_alike live most count cells few h exact large =
    let f = fits_by live most count cells few (cases_lt cells 4294967296) h exact large in
    same_tests count (most - live) (live + cells) most _ _ refl refl f.0 f.1

-- ---- entering

at_old : (spans : List Span) (span : Span) (n : ℕ) → n < length spans → span_at (spans ++ span ∷ []) n ≡ span_at spans n
at_old spans span n h = get_or_append_left spans (span ∷ []) ended_span n h

at_new : (spans : List Span) (span : Span) (n : ℕ) → n ≡ length spans → span_at (spans ++ span ∷ []) n ≡ span
at_new spans span n h = get_or_push spans span ended_span n (sym h)

at_none : (spans : List Span) (span : Span) (n : ℕ) → length spans < n → span_at (spans ++ span ∷ []) n ≡ ended_span
at_none spans span n h = get_or_past (spans ++ span ∷ []) n ended_span (omega (arith, length_push spans span))

-- a span that lives is an old one, or the new one
record IsOld (spans : List Span) (span : Span) (n : ℕ) : Type 0 where
  number : n < length spans
  same : span_at (spans ++ span ∷ []) n ≡ span_at spans n
  alive : (span_at spans n).alive ≡ true

record IsNew (spans : List Span) (span : Span) (n : ℕ) : Type 0 where
  number : n ≡ length spans
  same : span_at (spans ++ span ∷ []) n ≡ span

old_or_new_by : (spans : List Span) (span : Span) (n : ℕ) → (n < length spans) ⊎ ((n ≡ length spans) ⊎ (length spans < n))
    → (span_at (spans ++ span ∷ []) n).alive ≡ true → IsOld spans span n ⊎ IsNew spans span n
old_or_new_by spans span n (inl h) a = inl (record { number = h; same = at_old spans span n h; alive = ap (λ s. s.alive) (sym (at_old spans span n h)) ∙ a })
old_or_new_by spans span n (inr (inl h)) a = inr (record { number = h; same = at_new spans span n h })
old_or_new_by spans span n (inr (inr h)) a = absurd (cc (ap (λ s. s.alive) (at_none spans span n h)))

old_or_new : (spans : List Span) (span : Span) (n : ℕ) → (span_at (spans ++ span ∷ []) n).alive ≡ true → IsOld spans span n ⊎ IsNew spans span n
old_or_new spans span n a = old_or_new_by spans span n (three_ways n (length spans)) a

room_by : (spans : List Span) (first count : ℕ) (n : ℕ) → HasRoom spans first
    → IsOld spans (span_of first count) n ⊎ IsNew spans (span_of first count) n
    → (span_at (spans ++ span_of first count ∷ []) n).first + (span_at (spans ++ span_of first count ∷ []) n).count ≤ first + count
room_by spans first count n room (inl o) = let h = room.within n o.alive in rw o.same (omega arith)
room_by spans first count n room (inr w) = rw w.same (omega arith)

apart_by : (spans : List Span) (first count : ℕ) (left right : ℕ) → left < right → HasRoom spans first
    → ((m n : ℕ) → m < n → (span_at spans m).alive ≡ true → (span_at spans n).alive ≡ true → (span_at spans m).first + (span_at spans m).count ≤ (span_at spans n).first)
    → IsOld spans (span_of first count) left ⊎ IsNew spans (span_of first count) left
    → IsOld spans (span_of first count) right ⊎ IsNew spans (span_of first count) right
    → (span_at (spans ++ span_of first count ∷ []) left).first + (span_at (spans ++ span_of first count ∷ []) left).count ≤ (span_at (spans ++ span_of first count ∷ []) right).first
apart_by spans first count left right h room apart (inl l) (inl r) = rw (l.same, r.same) (apart left right h l.alive r.alive)
apart_by spans first count left right h room apart (inl l) (inr r) = rw (l.same, r.same) (room.within left l.alive)
apart_by spans first count left right h room apart (inr l) (inl r) = let a = l.number in let b = r.number in absurd (omega arith)
apart_by spans first count left right h room apart (inr l) (inr r) = let a = l.number in let b = r.number in absurd (omega arith)

-- ---- what the cells hold, with one more object

pointer_after : (spans : List Span) (span : Span) (pointer : Pointer) → PointerIn spans pointer → PointerIn (spans ++ span ∷ []) pointer
pointer_after spans span Null h = tt
pointer_after spans span (At object cell low high stride) h =
    let same = at_old spans span object h.entered in
    record {
      entered = let e = h.entered in omega (arith, length_push spans span);
      stride_above = h.stride_above;
      low_before = h.low_before;
      high_after = h.high_after;
      whole_before = h.whole_before;
      whole_after = h.whole_after;
      within = λ a. rw same (h.within (ap (λ s. s.alive) (sym same) ∙ a));
    }

pub held_after : (spans more : List Span) (kind : Scalar) (cell : Cell) → ((p : Pointer) → PointerIn spans p → PointerIn more p) → HoldsIn spans kind cell → HoldsIn more kind cell
held_after spans more kind Unset f h = tt
held_after spans more (IntegerKind kind) (Number value) f h = h
held_after spans more (IntegerKind kind) (PointerCell pointer) f h = absurd h
held_after spans more (PointerKind to) (Number value) f h = absurd h
held_after spans more (PointerKind to) (PointerCell pointer) f h = f pointer h

zero_fits : (kind : IntKind) → Represents kind (pos 0)
zero_fits BoolKind = record { from_least = omega (arith, ints); to_greatest = omega (arith, ints) }
zero_fits Char = record { from_least = omega (arith, ints); to_greatest = omega (arith, ints) }
zero_fits SChar = record { from_least = omega (arith, ints); to_greatest = omega (arith, ints) }
zero_fits UChar = record { from_least = omega (arith, ints); to_greatest = omega (arith, ints) }
zero_fits Short = record { from_least = omega (arith, ints); to_greatest = omega (arith, ints) }
zero_fits UShort = record { from_least = omega (arith, ints); to_greatest = omega (arith, ints) }
zero_fits Int = record { from_least = omega (arith, ints); to_greatest = omega (arith, ints) }
zero_fits UInt = record { from_least = omega (arith, ints); to_greatest = omega (arith, ints) }
zero_fits Long = record { from_least = omega (arith, ints); to_greatest = omega (arith, ints) }
zero_fits ULong = record { from_least = omega (arith, ints); to_greatest = omega (arith, ints) }
zero_fits LLong = record { from_least = omega (arith, ints); to_greatest = omega (arith, ints) }
zero_fits ULLong = record { from_least = omega (arith, ints); to_greatest = omega (arith, ints) }

first_held : (spans : List Span) (blank : Bool) (kind : Scalar) (guard : Guard) → HoldsIn spans kind (first_cell blank (kind, guard))
first_held spans false kind guard = tt
first_held spans true (IntegerKind kind) guard = zero_fits kind
first_held spans true (PointerKind to) guard = tt

appended_held : (spans : List Span) (cells : List Cell) (shape more : List (Scalar × Guard)) (blank : Bool) (i : ℕ) → length shape ≡ length cells
    → ((j : ℕ) → j < length cells → HoldsIn spans (shape_or shape j).0 (cell_or cells j)) → (i < length cells) ⊎ (length cells ≤ i)
    → i < length cells + length more → HoldsIn spans (shape_or (shape ++ more) i).0 (cell_or (cells ++ map (first_cell blank) more) i)
appended_held spans cells shape more blank i same h (inl b) c =
    let free : Scalar × Guard = (PointerKind 0, Free) in
    rw (get_or_append_left cells (map (first_cell blank) more) Unset i b, get_or_append_left shape more free i (omega arith)) (h i b)
appended_held spans cells shape more blank i same h (inr b) c =
    let free : Scalar × Guard = (PointerKind 0, Free) in
    let j : i - length cells < length more = omega arith in
    rw (
      get_or-append_right cells (map (first_cell blank) more) (length cells) i Unset refl b,
      get_or-append_right shape more (length cells) i free same b,
      get_or-map (first_cell blank) more (i - length cells) free Unset j,
    )
    (first_held spans blank (shape_or more (i - length cells)).0 (shape_or more (i - length cells)).1)

pub below_or_not : (m n : ℕ) → (m < n) ⊎ (n ≤ m)
below_or_not m n = elim (three_ways m n) [ inl a ↦ inl a | inr b ↦ inr (elim b [ inl e ↦ omega arith | inr g ↦ omega arith ]) ]

window-append : {X : Type 0} (xs ys : List X) (first size : ℕ) → first + size ≤ length xs → take size (drop first (xs ++ ys)) ≡ take size (drop first xs)
window-append xs ys first size h =
    ap (take size) (drop-append-le first xs ys (omega arith)) ∙ take-append-le size (drop first xs) ys (omega (arith, length-drop first xs))

-- ---- the store with one more object

pub record Entered (most live : ℕ) (spans : List Span) (cells : List Cell) (shape more : List (Scalar × Guard)) (blank : Bool) : Type 0 where
  pub stored : IsStored most (live + length more) (spans ++ span_of (length cells) (length more) ∷ []) (cells ++ map (first_cell blank) more) (shape ++ more)
  pub seen : memory_of most (spans ++ span_of (length cells) (length more) ∷ []) (cells ++ map (first_cell blank) more) (shape ++ more)
      ≡ with_object (memory_of most spans cells shape) (new_object blank more)
  pub kept : KeepsPointers (memory_of most spans cells shape)
      (memory_of most (spans ++ span_of (length cells) (length more) ∷ []) (cells ++ map (first_cell blank) more) (shape ++ more))

entered_stored : (most live : ℕ) (spans : List Span) (cells : List Cell) (shape more : List (Scalar × Guard)) (blank : Bool)
    → IsStored most live spans cells shape → live + length more ≤ most
    → IsStored most (live + length more) (spans ++ span_of (length cells) (length more) ∷ []) (cells ++ map (first_cell blank) more) (shape ++ more)
entered_stored most live spans cells shape more blank s room =
    let count = length more in
    let first = length cells in
    let span = span_of first count in
    let new_cells : length (cells ++ map (first_cell blank) more) ≡ first + count = length-append cells (map (first_cell blank) more) ∙ ap (λ n. first + n) (length-map more (first_cell blank)) in
    record {
      same_length = length-append shape more ∙ ap (λ n. n + count) s.same_length ∙ sym new_cells;
      room = record { within = λ n a. rw new_cells (room_by spans first count n s.room (old_or_new spans span n a)) };
      apart = λ left right h a b. apart_by spans first count left right h s.room s.apart (old_or_new spans span left a) (old_or_new spans span right b);
      counted = ap (λ n. n + count) s.counted ∙ sym (sum_by-append span_count spans (span ∷ []) ∙ ap (λ n. sum_by span_count spans + n) (zero-add count));
      at_most = room;
      holds = λ i b. appended_held (spans ++ span ∷ []) cells shape more blank i s.same_length
          (λ j c. held_after spans (spans ++ span ∷ []) _ _ (pointer_after spans span) (s.holds j c)) (below_or_not i first) (rw new_cells at b);
    }

-- an old object is where it was
old_object : (cells added : List Cell) (shape more : List (Scalar × Guard)) (span : Span) → length shape ≡ length cells → (span.alive ≡ true) ⊎ (span.alive ≡ false)
    → (span.alive ≡ true → span.first + span.count ≤ length cells) → object_of (cells ++ added) (shape ++ more) span ≡ object_of cells shape span
old_object cells added shape more span same (inl a) room =
    let r = room a in
    let of : List Cell → List (Scalar × Guard) → Option Object = λ xs ys. let o : Object = record { cells = xs; shape = ys } in Some o in
    object_of-live (cells ++ added) (shape ++ more) span a
    ∙ ap (λ xs. of xs (take span.count (drop span.first (shape ++ more)))) (window-append cells added span.first span.count r)
    ∙ ap (λ ys. of (take span.count (drop span.first cells)) ys) (window-append shape more span.first span.count (omega arith))
    ∙ sym (object_of-live cells shape span a)
old_object cells added shape more span same (inr d) room = object_of-ended (cells ++ added) (shape ++ more) span d ∙ sym (object_of-ended cells shape span d)

new_object_of : (cells added : List Cell) (shape more : List (Scalar × Guard)) → length shape ≡ length cells → length added ≡ length more
    → object_of (cells ++ added) (shape ++ more) (span_of (length cells) (length more)) ≡ Some (record { cells = added; shape = more })
new_object_of cells added shape more same size =
    let of : List Cell → List (Scalar × Guard) → Option Object = λ xs ys. let o : Object = record { cells = xs; shape = ys } in Some o in
    ap (λ xs. of (take (length more) xs) (take (length more) (drop (length cells) (shape ++ more)))) (drop_at cells added (length cells) refl)
    ∙ ap (λ ys. of (take (length more) added) (take (length more) ys)) (drop_at shape more (length cells) same)
    ∙ ap (λ xs. of xs (take (length more) more)) (take_all (length more) added (omega arith))
    ∙ ap (λ ys. of added ys) (take_all (length more) more (omega arith))

pub entered : (most live : ℕ) (spans : List Span) (cells : List Cell) (shape more : List (Scalar × Guard)) (blank : Bool)
    → IsStored most live spans cells shape → live + length more ≤ most → Entered most live spans cells shape more blank
entered most live spans cells shape more blank s room =
    let span = span_of (length cells) (length more) in
    let added = map (first_cell blank) more in
    let stored = entered_stored most live spans cells shape more blank s room in
    let objects = map-append (object_of (cells ++ added) (shape ++ more)) spans (span ∷ [])
    ∙ ap (λ xs. xs ++ object_of (cells ++ added) (shape ++ more) span ∷ [])
    (map-same (object_of cells shape) (object_of (cells ++ added) (shape ++ more)) spans ended_span
    (λ j b. old_object cells added shape more (span_at spans j) s.same_length (two_ways _) (s.room.within j)))
    ∙ ap (λ o. map (object_of cells shape) spans ++ o ∷ []) (new_object_of cells added shape more s.same_length (length-map more (first_cell blank))) in
    record {
      stored = stored;
      seen = ap (λ xs. let m : Memory = record { most = most; objects = xs } in m) objects;
      kept = record {
        kept = λ p h. is_pointer most (spans ++ span ∷ []) (cells ++ added) (shape ++ more) p stored.room
            (pointer_after spans span p (pointer_in most spans cells shape p s.room h));
      };
    }

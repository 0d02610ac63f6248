-- Closing gaps: an object moves down, and the store shows the same memory.
use Rattle.std.proofs.Common.{zero-add, add-zero, min, ◌≡◌, ◌≢◌, ℕ, zero, suc, ◌+◌, ◌-◌, ◌<◌, ◌≤◌, true, false, ◌⊎◌, inl, inr, Option, Some, None, List, [], ◌∷◌, map, length, get_or, set, take, drop, sym, ap, ◌∙◌, subst, arith, length-drop, length-set, get_or-set_other, get_or-set_same}
use Rattle.std.specs.Prelude.{sum_by}
use Rattle.std.proofs.lemmas.List.{same_lists, length-take, length-take-le, map-set, set-get_or, set-set, get_or-drop, get_or-take, get_or-map}
use Rattle.std.proofs.lemmas.List.Sums.{sum_by-set}
use Rattle.cr_memory.specs.declared.value.Pointer.{Pointer}
use Rattle.cr_memory.specs.declared.value.Pointer.TheVariants.{Null, At}
use Rattle.cr_memory.specs.declared.value.Scalar.{Scalar}
use Rattle.cr_memory.specs.declared.value.Scalar.TheVariants.{Pointer as PointerKind}
use Rattle.cr_memory.specs.declared.value.Cell.{Cell}
use Rattle.cr_memory.specs.declared.value.Cell.TheVariants.{Unset}
use Rattle.cr_memory.specs.declared.value.Guard.{Guard}
use Rattle.cr_memory.specs.declared.value.Guard.TheVariants.{Free}
use Rattle.cr_memory.specs.declared.span.Span.{Span}
use Rattle.cr_memory.specs.Memory.{Object, Memory}
use Rattle.cr_memory.specs.Access.{overwritten}
use Rattle.cr_memory.specs.Flat.{ended_span, span_at, object_of, memory_of, shape_or, cell_or, PointerIn, HoldsIn, HasRoom, span_count, moved_span, MovesDown, IsNext, IsStored}
use Rattle.cr_memory.proofs.View.{two_ways, object_of-live, object_of-ended}
use Rattle.cr_memory.proofs.Overwriting.{length-overwritten, get_or-overwritten_below, get_or-overwritten_above}
use Rattle.cr_memory.proofs.Writing.{map-same, map-except, same_or_not, three_ways, entered_if_alive, window-overwritten_same, window-overwritten_other}
use Rattle.cr_memory.proofs.Lifetimes.{held_after, below_or_not}
use Rattle.cr_memory.proofs.Ending.{cut_object}

-- ---- what is written stands where it was written

get_or-overwritten_in : {X : Type 0} (xs : List X) (place : ℕ) (vs : List X) (k : ℕ) (d : X) → k < length vs → place + length vs ≤ length xs
    → get_or (overwritten xs place vs) (place + k) d ≡ get_or vs k d
get_or-overwritten_in xs place [] k d h b = absurd (omega arith)
get_or-overwritten_in xs place (v ∷ vs) zero d h b =
    ap (λ n. get_or (overwritten (set xs place v) (suc place) vs) n d) (omega arith)
    ∙ get_or-overwritten_below (set xs place v) (suc place) vs place d (omega arith)
    ∙ get_or-set_same xs place v d (omega arith)
get_or-overwritten_in xs place (v ∷ vs) (suc k) d h b =
    ap (λ n. get_or (overwritten (set xs place v) (suc place) vs) n d) (omega arith)
    ∙ get_or-overwritten_in (set xs place v) (suc place) vs k d (omega arith) (omega (arith, length-set xs place v))

pub overwritten-whole : {X : Type 0} (xs vs : List X) → length vs ≡ length xs → overwritten xs 0 vs ≡ vs
overwritten-whole xs vs e = same_lists (overwritten xs 0 vs) vs (length-overwritten xs 0 vs ∙ sym e)
    (λ k d b. let c : k < length vs = omega (arith, length-overwritten xs 0 vs) in
    let same : 0 + k ≡ k = zero-add k in
    ap (λ n. get_or (overwritten xs 0 vs) n d) (sym same) ∙ get_or-overwritten_in xs 0 vs k d c (omega arith))

-- ---- one span moves

abbrev pub moved_to : List Span → ℕ → ℕ → List Span
moved_to spans number to = set spans number (moved_span to (span_at spans number))

at_moved : (spans : List Span) (number to : ℕ) → number < length spans → span_at (moved_to spans number to) number ≡ moved_span to (span_at spans number)
at_moved spans number to h = get_or-set_same spans number (moved_span to (span_at spans number)) ended_span h

at_kept : (spans : List Span) (number to n : ℕ) → n ≢ number → span_at (moved_to spans number to) n ≡ span_at spans n
at_kept spans number to n h = get_or-set_other spans number n (moved_span to (span_at spans number)) ended_span h

-- all but the place stays with every span
record SameSpan (old new : Span) : Type 0 where
  count : new.count ≡ old.count
  alive : new.alive ≡ old.alive

same_span : (spans : List Span) (number to n : ℕ) → number < length spans → (n ≡ number) ⊎ (n ≢ number) → SameSpan (span_at spans n) (span_at (moved_to spans number to) n)
same_span spans number to n h (inl e) = let s = at_moved spans number to h in
    rw e (record { count = ap (λ x. x.count) s; alive = ap (λ x. x.alive) s })
same_span spans number to n h (inr o) = let s = at_kept spans number to n o in
    record { count = ap (λ x. x.count) s; alive = ap (λ x. x.alive) s }

pointer_moved : (spans : List Span) (number to : ℕ) → number < length spans → (pointer : Pointer) → PointerIn spans pointer → PointerIn (moved_to spans number to) pointer
pointer_moved spans number to h Null p = tt
pointer_moved spans number to h (At object cell low high stride) p =
    let s = same_span spans number to object h (same_or_not object number) in
    record {
      entered = let e = p.entered in omega (arith, length-set spans number (moved_span to (span_at spans number)));
      stride_above = p.stride_above;
      low_before = p.low_before;
      high_after = p.high_after;
      whole_before = p.whole_before;
      whole_after = p.whole_after;
      within = λ a. rw s.count (p.within (sym s.alive ∙ a));
    }

-- ---- the store after a move

-- the objects below a number end at a place, and the others begin at it or after
pub record Tidy (most live : ℕ) (spans : List Span) (cells : List Cell) (shape : List (Scalar × Guard)) (number to : ℕ) : Type 0 where
  pub stored : IsStored most live spans cells shape
  pub before : (n : ℕ) → n < number → (span_at spans n).alive ≡ true → (span_at spans n).first + (span_at spans n).count ≤ to
  pub after : (n : ℕ) → number ≤ n → (span_at spans n).alive ≡ true → to ≤ (span_at spans n).first

run_length : {X : Type 0} (xs : List X) (first count : ℕ) → first + count ≤ length xs → length (take count (drop first xs)) ≡ count
run_length xs first count h = length-take-le count (drop first xs) (omega (arith, length-drop first xs))

moved_room : (spans : List Span) (number to room n : ℕ) → number < length spans → HasRoom spans room → to ≤ (span_at spans number).first → (span_at spans number).alive ≡ true
    → (n ≡ number) ⊎ (n ≢ number) → (span_at (moved_to spans number to) n).alive ≡ true
    → (span_at (moved_to spans number to) n).first + (span_at (moved_to spans number to) n).count ≤ room
moved_room spans number to room n h r down a (inl e) b =
    let w = r.within number a in
    rw (e, at_moved spans number to h) (omega arith)
moved_room spans number to room n h r down a (inr o) b =
    let s = at_kept spans number to n o in
    rw s (r.within n (rw s at b))

moved_apart : (spans : List Span) (number to left right : ℕ) → number < length spans → to ≤ (span_at spans number).first → (span_at spans number).alive ≡ true
    → ((n : ℕ) → n < number → (span_at spans n).alive ≡ true → (span_at spans n).first + (span_at spans n).count ≤ to)
    → ((m n : ℕ) → m < n → (span_at spans m).alive ≡ true → (span_at spans n).alive ≡ true → (span_at spans m).first + (span_at spans m).count ≤ (span_at spans n).first)
    → left < right → (left ≡ number) ⊎ (left ≢ number) → (right ≡ number) ⊎ (right ≢ number)
    → (span_at (moved_to spans number to) left).alive ≡ true → (span_at (moved_to spans number to) right).alive ≡ true
    → (span_at (moved_to spans number to) left).first + (span_at (moved_to spans number to) left).count ≤ (span_at (moved_to spans number to) right).first
moved_apart spans number to left right h down alive before apart l (inl e) (inl f) a b = absurd (omega arith)
moved_apart spans number to left right h down alive before apart l (inl e) (inr o) a b =
    let s = at_kept spans number to right o in
    let x = apart number right (omega arith) alive (rw s at b) in
    rw (e, at_moved spans number to h, s) (omega arith)
moved_apart spans number to left right h down alive before apart l (inr o) (inl f) a b =
    let s = at_kept spans number to left o in
    let x = before left (omega arith) (rw s at a) in
    rw (f, at_moved spans number to h, s) x
moved_apart spans number to left right h down alive before apart l (inr o) (inr p) a b =
    let s = at_kept spans number to left o in
    let t = at_kept spans number to right p in
    rw (s, t) (apart left right l (rw s at a) (rw t at b))

same_total : (spans : List Span) (number to : ℕ) → number < length spans → sum_by span_count spans ≡ sum_by span_count (moved_to spans number to)
same_total spans number to h =
    let moved = sum_by-set span_count spans number (moved_span to (span_at spans number)) ended_span h in
    omega arith

held_moved : (spans : List Span) (cells : List Cell) (shape : List (Scalar × Guard)) (first to count i : ℕ) → length shape ≡ length cells → first + count ≤ length cells → to ≤ first
    → ((j : ℕ) → j < length cells → HoldsIn spans (shape_or shape j).0 (cell_or cells j)) → i < length cells
    → (i < to) ⊎ (to ≤ i) → (i < to + count) ⊎ (to + count ≤ i)
    → HoldsIn spans (shape_or (overwritten shape to (take count (drop first shape))) i).0 (cell_or (overwritten cells to (take count (drop first cells))) i)
held_moved spans cells shape first to count i same room down h b (inl below) c =
    let free : Scalar × Guard = (PointerKind 0, Free) in
    rw (get_or-overwritten_below cells to (take count (drop first cells)) i Unset below, get_or-overwritten_below shape to (take count (drop first shape)) i free below) (h i b)
held_moved spans cells shape first to count i same room down h b (inr d) (inr above) =
    let free : Scalar × Guard = (PointerKind 0, Free) in
    let n = run_length cells first count room in
    let m = run_length shape first count (omega arith) in
    rw (get_or-overwritten_above cells to (take count (drop first cells)) i Unset (omega arith), get_or-overwritten_above shape to (take count (drop first shape)) i free (omega arith)) (h i b)
held_moved spans cells shape first to count i same room down h b (inr d) (inl within) =
    let free : Scalar × Guard = (PointerKind 0, Free) in
    let n = run_length cells first count room in
    let m = run_length shape first count (omega arith) in
    let k : i - to < count = omega arith in
    let at : to + (i - to) ≡ i = omega arith in
    let cell : cell_or (overwritten cells to (take count (drop first cells))) i ≡ cell_or cells (first + (i - to)) =
    ap (λ x. get_or (overwritten cells to (take count (drop first cells))) x Unset) (sym at)
    ∙ get_or-overwritten_in cells to (take count (drop first cells)) (i - to) Unset (omega arith) (omega arith)
    ∙ get_or-take count (drop first cells) (i - to) Unset k ∙ get_or-drop first cells (i - to) Unset in
    let own : shape_or (overwritten shape to (take count (drop first shape))) i ≡ shape_or shape (first + (i - to)) =
    ap (λ x. get_or (overwritten shape to (take count (drop first shape))) x free) (sym at)
    ∙ get_or-overwritten_in shape to (take count (drop first shape)) (i - to) free (omega arith) (omega arith)
    ∙ get_or-take count (drop first shape) (i - to) free k ∙ get_or-drop first shape (i - to) free in
    rw (cell, own) (h (first + (i - to)) (omega arith))

moved_stored : (most live : ℕ) (spans : List Span) (cells : List Cell) (shape : List (Scalar × Guard)) (number to : ℕ)
    → Tidy most live spans cells shape number to → (span_at spans number).alive ≡ true
    → IsStored most live (moved_to spans number to)
    (overwritten cells to (take (span_at spans number).count (drop (span_at spans number).first cells)))
    (overwritten shape to (take (span_at spans number).count (drop (span_at spans number).first shape)))
moved_stored most live spans cells shape number to t a =
    let s = t.stored in
    let h = entered_if_alive spans number a in
    let span = span_at spans number in
    let down = t.after number (omega arith) a in
    let room = s.room.within number a in
    let run = take span.count (drop span.first cells) in
    let own = take span.count (drop span.first shape) in
    let size = length-overwritten cells to run in
    record {
      same_length = length-overwritten shape to own ∙ s.same_length ∙ sym size;
      room = record { within = λ n b. rw size (moved_room spans number to (length cells) n h s.room down a (same_or_not n number) b) };
      apart = λ m n c x y. moved_apart spans number to m n h down a t.before s.apart c (same_or_not m number) (same_or_not n number) x y;
      counted = s.counted ∙ same_total spans number to h;
      at_most = s.at_most;
      holds = λ i b. let c : i < length cells = omega arith in
          held_after (moved_to spans number to) (moved_to spans number to) _ _ (λ p q. q)
          (held_moved (moved_to spans number to) cells shape span.first to span.count i s.same_length room down
          (λ j d. held_after spans (moved_to spans number to) _ _ (pointer_moved spans number to h) (s.holds j d)) c (below_or_not i to) (below_or_not i (to + span.count)));
    }

moved_other : (cells : List Cell) (shape run : List (Scalar × Guard)) (moved : List Cell) (to : ℕ) (span : Span) → (span.alive ≡ true) ⊎ (span.alive ≡ false) → length run ≡ length moved
    → (span.alive ≡ true → (to + length moved ≤ span.first) ⊎ (span.first + span.count ≤ to))
    → object_of (overwritten cells to moved) (overwritten shape to run) span ≡ object_of cells shape span
moved_other cells shape run moved to span (inl a) same h =
    let of : List Cell → List (Scalar × Guard) → Option Object = λ xs ys. let o : Object = record { cells = xs; shape = ys } in Some o in
    let P : ℕ → Type 0 = λ n. (to + n ≤ span.first) ⊎ (span.first + span.count ≤ to) in
    object_of-live (overwritten cells to moved) (overwritten shape to run) span a
    ∙ ap (λ xs. of xs (take span.count (drop span.first (overwritten shape to run)))) (window-overwritten_other cells span.first span.count to moved (h a))
    ∙ ap (λ ys. of (take span.count (drop span.first cells)) ys) (window-overwritten_other shape span.first span.count to run (subst P (sym same) (h a)))
    ∙ sym (object_of-live cells shape span a)
moved_other cells shape run moved to span (inr d) same h =
    object_of-ended (overwritten cells to moved) (overwritten shape to run) span d ∙ sym (object_of-ended cells shape span d)

window_moved : {X : Type 0} (xs : List X) (first to count : ℕ) → first + count ≤ length xs → to ≤ first
    → take count (drop to (overwritten xs to (take count (drop first xs)))) ≡ take count (drop first xs)
window_moved xs first to count room down =
    let run = take count (drop first xs) in
    let size = run_length xs first count room in
    ap (λ n. take count (drop to (overwritten xs n run))) (sym (add-zero to))
    ∙ window-overwritten_same xs to count 0 run (omega arith)
    ∙ overwritten-whole (take count (drop to xs)) run (size ∙ sym (run_length xs to count (omega arith)))

apart_sides : (spans : List Span) (number to j size : ℕ) → to ≤ (span_at spans number).first → (span_at spans number).alive ≡ true → size ≡ (span_at spans number).count
    → ((n : ℕ) → n < number → (span_at spans n).alive ≡ true → (span_at spans n).first + (span_at spans n).count ≤ to)
    → ((m n : ℕ) → m < n → (span_at spans m).alive ≡ true → (span_at spans n).alive ≡ true → (span_at spans m).first + (span_at spans m).count ≤ (span_at spans n).first)
    → (j < number) ⊎ ((j ≡ number) ⊎ (number < j)) → j ≢ number → (span_at spans j).alive ≡ true
    → (to + size ≤ (span_at spans j).first) ⊎ ((span_at spans j).first + (span_at spans j).count ≤ to)
apart_sides spans number to j size down alive e before apart (inl l) o a = inr (before j l a)
apart_sides spans number to j size down alive e before apart (inr (inl f)) o a = absurd (o f)
apart_sides spans number to j size down alive e before apart (inr (inr g)) o a = let x = apart number j g alive a in inl (omega arith)

moved_seen : (most live : ℕ) (spans : List Span) (cells : List Cell) (shape : List (Scalar × Guard)) (number to : ℕ)
    → Tidy most live spans cells shape number to → (span_at spans number).alive ≡ true
    → memory_of most (moved_to spans number to)
    (overwritten cells to (take (span_at spans number).count (drop (span_at spans number).first cells)))
    (overwritten shape to (take (span_at spans number).count (drop (span_at spans number).first shape)))
    ≡ memory_of most spans cells shape
moved_seen most live spans cells shape number to t a =
    let s = t.stored in
    let h = entered_if_alive spans number a in
    let span = span_at spans number in
    let down = t.after number (omega arith) a in
    let room = s.room.within number a in
    let run = take span.count (drop span.first cells) in
    let own = take span.count (drop span.first shape) in
    let size = run_length cells span.first span.count room in
    let sizes = run_length shape span.first span.count (omega (arith, s.same_length)) in
    let before = object_of cells shape in
    let after = object_of (overwritten cells to run) (overwritten shape to own) in
    let of : List Cell → List (Scalar × Guard) → Option Object = λ xs ys. let o : Object = record { cells = xs; shape = ys } in Some o in
    let same : after (moved_span to span) ≡ before span =
    object_of-live (overwritten cells to run) (overwritten shape to own) (moved_span to span) a
    ∙ ap (λ xs. of xs (take span.count (drop to (overwritten shape to own)))) (window_moved cells span.first to span.count room down)
    ∙ ap (λ ys. of run ys) (window_moved shape span.first to span.count (omega (arith, s.same_length)) down)
    ∙ sym (object_of-live cells shape span a) in
    let objects = map-set after spans number (moved_span to span)
    ∙ ap (λ xs. set xs number (after (moved_span to span))) (map-except before after spans number ended_span h
    (λ j b o. moved_other cells shape own run to (span_at spans j) (two_ways _) (sizes ∙ sym size)
    (apart_sides spans number to j (length run) down a size t.before s.apart (three_ways j number) o)))
    ∙ set-set (map before spans) number (after span) (after (moved_span to span))
    ∙ ap (λ o. set (map before spans) number o) (same ∙ sym (get_or-map before spans number ended_span None h))
    ∙ set-get_or (map before spans) number None in
    ap (λ xs. let m : Memory = record { most = most; objects = xs } in m) objects

pub record Moved (most live : ℕ) (spans : List Span) (cells : List Cell) (shape : List (Scalar × Guard)) (number end : ℕ) (memory : Memory) : Type 0 where
  pub tidy : Tidy most live spans cells shape number end
  pub seen : memory_of most spans cells shape ≡ memory

moved_live : (most live : ℕ) (spans : List Span) (cells : List Cell) (shape : List (Scalar × Guard)) (number to : ℕ) (memory : Memory)
    → Moved most live spans cells shape number to memory → (span_at spans number).alive ≡ true
    → Moved most live (moved_to spans number to)
    (overwritten cells to (take (span_at spans number).count (drop (span_at spans number).first cells)))
    (overwritten shape to (take (span_at spans number).count (drop (span_at spans number).first shape))) (number + 1) (to + (span_at spans number).count) memory
moved_live most live spans cells shape number to memory m a =
    let t = m.tidy in
    let h = entered_if_alive spans number a in
    let down = t.after number (omega arith) a in
    record {
      tidy = record {
        stored = moved_stored most live spans cells shape number to t a;
        before = λ n b x. before_by n b x (three_ways n number);
        after = λ n b x. let o : n ≢ number = omega arith in
            let s = at_kept spans number to n o in
            let e = t.stored.apart number n (omega arith) a (rw s at x) in
            rw s (omega arith);
      };
      seen = moved_seen most live spans cells shape number to t a ∙ m.seen;
    }
  where
    before_by : (n : ℕ) → n < number + 1 → (span_at (moved_to spans number to) n).alive ≡ true → (n < number) ⊎ ((n ≡ number) ⊎ (number < n))
        → (span_at (moved_to spans number to) n).first + (span_at (moved_to spans number to) n).count ≤ to + (span_at spans number).count
    before_by n b x (inl l) =
        let o : n ≢ number = omega arith in
        let s = at_kept spans number to n o in
        let e = m.tidy.before n l (rw s at x) in
        rw s (omega arith)
    before_by n b x (inr (inl e)) = rw (e, at_moved spans number to (entered_if_alive spans number a)) (omega arith)
    before_by n b x (inr (inr g)) = absurd (omega arith)

-- no object lives between the two numbers
passed : (most live : ℕ) (spans : List Span) (cells : List Cell) (shape : List (Scalar × Guard)) (from number to : ℕ) (memory : Memory)
    → Moved most live spans cells shape from to memory → IsNext spans from number → Moved most live spans cells shape number to memory
passed most live spans cells shape from number to memory m next = record {
  tidy = record {
    stored = m.tidy.stored;
    before = λ n b x. before_by n b x (below_or_not n from);
    after = λ n b x. let f = next.from_on in m.tidy.after n (omega arith) x;
  };
  seen = m.seen;
}
  where
    before_by : (n : ℕ) → n < number → (span_at spans n).alive ≡ true → (n < from) ⊎ (from ≤ n) → (span_at spans n).first + (span_at spans n).count ≤ to
    before_by n b x (inl l) = m.tidy.before n l x
    before_by n b x (inr g) = absurd (cc (x, next.between n g b))

pub place_below : (most live : ℕ) (spans : List Span) (cells : List Cell) (shape : List (Scalar × Guard)) (from number to : ℕ) (memory : Memory)
    → Moved most live spans cells shape from to memory → IsNext spans from number → to ≤ (span_at spans number).first
place_below most live spans cells shape from number to memory m next = m.tidy.after number next.from_on next.alive

pub moved : (most live : ℕ) (spans : List Span) (cells : List Cell) (shape : List (Scalar × Guard)) (from number to : ℕ) (memory : Memory)
    (spans' : List Span) (cells' : List Cell) (shape' : List (Scalar × Guard)) (end : ℕ)
    → Moved most live spans cells shape from to memory → IsNext spans from number → MovesDown spans cells shape number to spans' cells' shape' end
    → Moved most live spans' cells' shape' (number + 1) end memory
moved most live spans cells shape from number to memory spans' cells' shape' end m next w =
    rw (w.in_spans, w.in_cells, w.in_shape, w.ends)
    (moved_live most live spans cells shape number to memory (passed most live spans cells shape from number to memory m next) next.alive)

pub begin_moving : (most live : ℕ) (spans : List Span) (cells : List Cell) (shape : List (Scalar × Guard)) (memory : Memory)
    → IsStored most live spans cells shape → memory_of most spans cells shape ≡ memory → Moved most live spans cells shape 0 0 memory
begin_moving most live spans cells shape memory s e = record {
  tidy = record { stored = s; before = λ n b x. absurd (omega arith); after = λ n b x. omega arith };
  seen = e;
}

-- ---- the rest is cut off

-- from a number on no object lives, so all end before the place
all_before : (most live : ℕ) (spans : List Span) (cells : List Cell) (shape : List (Scalar × Guard)) (number end : ℕ) (memory : Memory)
    → Moved most live spans cells shape number end memory → ((n : ℕ) → number ≤ n → (span_at spans n).alive ≡ false)
    → (n : ℕ) → (span_at spans n).alive ≡ true → (n < number) ⊎ (number ≤ n) → (span_at spans n).first + (span_at spans n).count ≤ end
all_before most live spans cells shape number end memory m none n a (inl l) = m.tidy.before n l a
all_before most live spans cells shape number end memory m none n a (inr g) = absurd (cc (a, none n g))

pub cut_stored : (most live : ℕ) (spans : List Span) (cells : List Cell) (shape : List (Scalar × Guard)) (number end : ℕ) (memory : Memory)
    → Moved most live spans cells shape number end memory → ((n : ℕ) → number ≤ n → (span_at spans n).alive ≡ false) → IsStored most live spans (take end cells) (take end shape)
cut_stored most live spans cells shape number end memory m none =
    let s = m.tidy.stored in
    record {
      same_length = length-take end shape ∙ ap (min end) s.same_length ∙ sym (length-take end cells);
      room = record {
        within = λ n a.
            let b = all_before most live spans cells shape number end memory m none n a (below_or_not n number) in
            let r = s.room.within n a in
            omega (arith, length-take end cells);
      };
      apart = s.apart;
      counted = s.counted;
      at_most = s.at_most;
      holds = λ i b.
          let free : Scalar × Guard = (PointerKind 0, Free) in
          let c : i < end = omega (arith, length-take end cells) in
          rw (get_or-take end cells i Unset c, get_or-take end shape i free c) (s.holds i (omega (arith, length-take end cells)));
    }

pub cut_seen : (most live : ℕ) (spans : List Span) (cells : List Cell) (shape : List (Scalar × Guard)) (number end : ℕ) (memory : Memory)
    → Moved most live spans cells shape number end memory → ((n : ℕ) → number ≤ n → (span_at spans n).alive ≡ false) → memory_of most spans (take end cells) (take end shape) ≡ memory
cut_seen most live spans cells shape number end memory m none =
    ap (λ xs. let r : Memory = record { most = most; objects = xs } in r)
    (map-same (object_of cells shape) (object_of (take end cells) (take end shape)) spans ended_span
    (λ j b. cut_object cells shape (span_at spans j) end (two_ways _) (λ a. all_before most live spans cells shape number end memory m none j a (below_or_not j number))))
    ∙ m.seen

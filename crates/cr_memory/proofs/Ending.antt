-- Leaving: the store stays well formed without the cells that no live object has, and shows the object ended.
use Rattle.std.proofs.Common.{◌≡◌, ◌≢◌, ℕ, ◌+◌, ◌-◌, ◌<◌, ◌≤◌, true, false, ◌⊎◌, inl, inr, Option, Some, None, IsSome, List, map, length, set, take, drop, refl, sym, ap, ◌∙◌, subst, arith, length-set, get_or-set_other, get_or-set_same}
use Rattle.std.specs.Prelude.{sum_by}
use Rattle.std.proofs.lemmas.List.{length-take-le, set-set, map-set, drop-take, take-take, get_or-take}
use Rattle.std.proofs.lemmas.List.Sums.{sum_by-set}
use Rattle.cr_memory.specs.declared.value.Pointer.{Pointer}
use Rattle.cr_memory.specs.declared.value.Pointer.TheVariants.{Null, At}
use Rattle.cr_memory.specs.declared.value.Scalar.{Scalar}
use Rattle.cr_memory.specs.declared.value.Scalar.TheVariants.{Pointer as PointerKind}
use Rattle.cr_memory.specs.declared.value.Cell.{Cell}
use Rattle.cr_memory.specs.declared.value.Cell.TheVariants.{Unset}
use Rattle.cr_memory.specs.declared.value.Guard.{Guard}
use Rattle.cr_memory.specs.declared.value.Guard.TheVariants.{Free}
use Rattle.cr_memory.specs.declared.span.Span.{Span}
use Rattle.cr_memory.specs.Memory.{Object, Memory, KeepsPointers, live_object, without_object}
use Rattle.cr_memory.specs.Flat.{ended_span, span_at, object_of, memory_of, PointerIn, HasRoom, span_count, IsLast, EndsAfterLast, IsStored}
use Rattle.cr_memory.proofs.View.{two_ways, object_of-live, object_of-ended, live_object-memory_of, pointer_in, is_pointer}
use Rattle.cr_memory.proofs.Writing.{map-except, same_or_not, three_ways, entered_if_alive}
use Rattle.cr_memory.proofs.Lifetimes.{held_after}

-- the spans after the object's end
abbrev pub left_of : List Span → ℕ → List Span
left_of spans number = set spans number ended_span

-- ---- one span changes, in its life alone

at_ended : (spans : List Span) (number : ℕ) → number < length spans → span_at (left_of spans number) number ≡ ended_span
at_ended spans number h = get_or-set_same spans number ended_span ended_span h

at_kept : (spans : List Span) (number n : ℕ) → n ≢ number → span_at (left_of spans number) n ≡ span_at spans n
at_kept spans number n h = get_or-set_other spans number n ended_span ended_span h

-- an object that lives afterwards is another one, and lived before
record StillAlive (spans : List Span) (number n : ℕ) : Type 0 where
  other : n ≢ number
  same : span_at (left_of spans number) n ≡ span_at spans n
  alive : (span_at spans n).alive ≡ true

still_alive_by : (spans : List Span) (number n : ℕ) → number < length spans → (n ≡ number) ⊎ (n ≢ number) → (span_at (left_of spans number) n).alive ≡ true
    → StillAlive spans number n
still_alive_by spans number n h (inl e) a =
    let d : (span_at (left_of spans number) n).alive ≡ false = rw e (ap (λ s. s.alive) (at_ended spans number h)) in absurd (cc (a, d))
still_alive_by spans number n h (inr o) a =
    record { other = o; same = at_kept spans number n o; alive = ap (λ s. s.alive) (sym (at_kept spans number n o)) ∙ a }

still_alive : (spans : List Span) (number n : ℕ) → number < length spans → (span_at (left_of spans number) n).alive ≡ true → StillAlive spans number n
still_alive spans number n h a = still_alive_by spans number n h (same_or_not n number) a

-- ---- where the cells end afterwards

ends_by : (most live : ℕ) (spans : List Span) (cells : List Cell) (shape : List (Scalar × Guard)) (number last end n : ℕ)
    → IsStored most live spans cells shape → number < length spans → IsLast (left_of spans number) last end → (span_at (left_of spans number) n).alive ≡ true
    → (n < last) ⊎ ((n ≡ last) ⊎ (last < n)) → (span_at (left_of spans number) n).first + (span_at (left_of spans number) n).count ≤ end
ends_by most live spans cells shape number last end n s h l a (inl c) =
    let x = still_alive spans number n h a in
    let y = still_alive spans number last h l.alive in
    let e = s.apart n last c x.alive y.alive in
    let same : end ≡ (span_at spans last).first + (span_at spans last).count = l.ends ∙ ap (λ x. x.first + x.count) y.same in
    rw x.same (omega arith)
ends_by most live spans cells shape number last end n s h l a (inr (inl c)) = let e = l.ends in rw c (omega arith)
ends_by most live spans cells shape number last end n s h l a (inr (inr c)) = absurd (cc (a, l.later n c))

pub ends : (most live : ℕ) (spans : List Span) (cells : List Cell) (shape : List (Scalar × Guard)) (number end n : ℕ)
    → IsStored most live spans cells shape → number < length spans → EndsAfterLast (left_of spans number) end → (span_at (left_of spans number) n).alive ≡ true
    → (span_at (left_of spans number) n).first + (span_at (left_of spans number) n).count ≤ end
ends most live spans cells shape number end n s h (inl none) a = absurd (cc (a, none.0 n))
ends most live spans cells shape number end n s h (inr last) a = ends_by most live spans cells shape number last.0 end n s h last.1 a (three_ways n last.0)

pub end_within : (most live : ℕ) (spans : List Span) (cells : List Cell) (shape : List (Scalar × Guard)) (number end : ℕ)
    → IsStored most live spans cells shape → number < length spans → EndsAfterLast (left_of spans number) end → end ≤ length cells
end_within most live spans cells shape number end s h (inl none) = let e = none.1 in omega arith
end_within most live spans cells shape number end s h (inr last) =
    let y = still_alive spans number last.0 h last.1.alive in
    let r = s.room.within last.0 y.alive in
    let same : end ≡ (span_at spans last.0).first + (span_at spans last.0).count = last.1.ends ∙ ap (λ x. x.first + x.count) y.same in
    omega arith

-- ---- what the cells hold, with one object less

pointer_left : (spans : List Span) (number : ℕ) → number < length spans → (pointer : Pointer) → PointerIn spans pointer → PointerIn (left_of spans number) pointer
pointer_left spans number h Null p = tt
pointer_left spans number h (At object cell low high stride) p = record {
  entered = let e = p.entered in omega (arith, length-set spans number ended_span);
  stride_above = p.stride_above;
  low_before = p.low_before;
  high_after = p.high_after;
  whole_before = p.whole_before;
  whole_after = p.whole_after;
  within = λ a. let s = still_alive spans number object h a in rw s.same (p.within s.alive);
}

window-take : {X : Type 0} (xs : List X) (end first size : ℕ) → first + size ≤ end → take size (drop first (take end xs)) ≡ take size (drop first xs)
window-take xs end first size h =
    let rest : end ≡ first + (end - first) = omega arith in
    ap (λ n. take size (drop first (take n xs))) rest
    ∙ ap (take size) (drop-take first (end - first) xs)
    ∙ take-take size (end - first) (drop first xs) (omega arith)

-- ---- the store without the object

pub record Left (most live : ℕ) (spans : List Span) (cells : List Cell) (shape : List (Scalar × Guard)) (number end : ℕ) : Type 0 where
  pub stored : IsStored most (live - (span_at spans number).count) (left_of spans number)
      (take end cells) (take end shape)
  pub seen : memory_of most (left_of spans number) (take end cells) (take end shape)
      ≡ without_object (memory_of most spans cells shape) number
  pub kept : KeepsPointers (memory_of most spans cells shape)
      (memory_of most (left_of spans number) (take end cells) (take end shape))

pub count_within : (spans : List Span) (number : ℕ) → number < length spans → (span_at spans number).alive ≡ true
    → (span_at spans number).count ≤ sum_by span_count spans
count_within spans number h a =
    let gone = sum_by-set span_count spans number ended_span ended_span h in
    let was : span_count (span_at spans number) ≡ (span_at spans number).count = rw a refl in
    omega arith

live_left : (spans : List Span) (number live : ℕ) → number < length spans → (span_at spans number).alive ≡ true → live ≡ sum_by span_count spans
    → live - (span_at spans number).count ≡ sum_by span_count (left_of spans number)
live_left spans number live h a e =
    let gone = sum_by-set span_count spans number ended_span ended_span h in
    let was : span_count (span_at spans number) ≡ (span_at spans number).count = rw a refl in
    omega arith

left_stored : (most live : ℕ) (spans : List Span) (cells : List Cell) (shape : List (Scalar × Guard)) (number end : ℕ)
    → IsStored most live spans cells shape → (span_at spans number).alive ≡ true → EndsAfterLast (left_of spans number) end
    → IsStored most (live - (span_at spans number).count) (left_of spans number)
    (take end cells) (take end shape)
left_stored most live spans cells shape number end s a l =
    let h = entered_if_alive spans number a in
    let within = end_within most live spans cells shape number end s h l in
    let size : length (take end cells) ≡ end = length-take-le end cells within in
    let shapes : length (take end shape) ≡ end = length-take-le end shape (omega (arith, s.same_length)) in
    record {
      same_length = shapes ∙ sym size;
      room = record { within = λ n b. rw size (ends most live spans cells shape number end n s h l b) };
      apart = λ m n c x y.
          let left = still_alive spans number m h x in
          let right = still_alive spans number n h y in
          rw (left.same, right.same) (s.apart m n c left.alive right.alive);
      counted = live_left spans number live h a s.counted;
      at_most = let m = s.at_most in omega arith;
      holds = λ i b.
          let free : Scalar × Guard = (PointerKind 0, Free) in
          let c : i < end = omega arith in
          rw (get_or-take end cells i Unset c, get_or-take end shape i free c)
          (held_after spans (left_of spans number) _ _ (pointer_left spans number h) (s.holds i (omega arith)));
    }

-- where the cells are cut off behind an object, it stays
pub cut_object : (cells : List Cell) (shape : List (Scalar × Guard)) (span : Span) (end : ℕ) → (span.alive ≡ true) ⊎ (span.alive ≡ false)
    → (span.alive ≡ true → span.first + span.count ≤ end) → object_of (take end cells) (take end shape) span ≡ object_of cells shape span
cut_object cells shape span end (inl a) within =
    let w = within a in
    let of : List Cell → List (Scalar × Guard) → Option Object = λ xs ys. let o : Object = record { cells = xs; shape = ys } in Some o in
    object_of-live (take end cells) (take end shape) span a
    ∙ ap (λ xs. of xs (take span.count (drop span.first (take end shape)))) (window-take cells end span.first span.count w)
    ∙ ap (λ ys. of (take span.count (drop span.first cells)) ys) (window-take shape end span.first span.count w)
    ∙ sym (object_of-live cells shape span a)
cut_object cells shape span end (inr d) within = object_of-ended (take end cells) (take end shape) span d ∙ sym (object_of-ended cells shape span d)

-- another object that lived still lives, so its cells are kept
other_ends : (most live : ℕ) (spans : List Span) (cells : List Cell) (shape : List (Scalar × Guard)) (number end n : ℕ)
    → IsStored most live spans cells shape → number < length spans → EndsAfterLast (left_of spans number) end → n ≢ number → (span_at spans n).alive ≡ true
    → (span_at spans n).first + (span_at spans n).count ≤ end
other_ends most live spans cells shape number end n s h l o a =
    let same = at_kept spans number n o in
    rw same at (ends most live spans cells shape number end n s h l (ap (λ x. x.alive) same ∙ a))

pub left : (most live : ℕ) (spans : List Span) (cells : List Cell) (shape : List (Scalar × Guard)) (number end : ℕ)
    → IsStored most live spans cells shape → (span_at spans number).alive ≡ true → EndsAfterLast (left_of spans number) end → Left most live spans cells shape number end
left most live spans cells shape number end s a l =
    let h = entered_if_alive spans number a in
    let before = object_of cells shape in
    let after = object_of (take end cells) (take end shape) in
    let stored = left_stored most live spans cells shape number end s a l in
    let objects = map-set after spans number ended_span
    ∙ ap (λ xs. set xs number None) (map-except before after spans number ended_span h
    (λ j b o. cut_object cells shape (span_at spans j) end (two_ways _) (other_ends most live spans cells shape number end j s h l o)))
    ∙ set-set (map before spans) number (after (span_at spans number)) None in
    record {
      stored = stored;
      seen = ap (λ xs. let m : Memory = record { most = most; objects = xs } in m) objects;
      kept = record {
        kept = λ p q. is_pointer most (left_of spans number) (take end cells) (take end shape) p stored.room
            (pointer_left spans number h p (pointer_in most spans cells shape p s.room q));
      };
    }

-- ---- a live object of the memory

alive_by : (most : ℕ) (spans : List Span) (cells : List Cell) (shape : List (Scalar × Guard)) (number : ℕ)
    → ((span_at spans number).alive ≡ true) ⊎ ((span_at spans number).alive ≡ false) → IsSome (live_object (memory_of most spans cells shape) number)
    → (span_at spans number).alive ≡ true
alive_by most spans cells shape number (inl a) h = a
alive_by most spans cells shape number (inr d) h =
    let P : Option Object → Type 0 = λ o. IsSome o in
    absurd (cc (subst P (live_object-memory_of most spans cells shape number ∙ object_of-ended cells shape (span_at spans number) d) h))

pub alive_seen : (most : ℕ) (spans : List Span) (cells : List Cell) (shape : List (Scalar × Guard)) (memory : Memory) (number : ℕ)
    → memory_of most spans cells shape ≡ memory → IsSome (live_object memory number) → (span_at spans number).alive ≡ true
alive_seen most spans cells shape memory number view h =
    let P : Memory → Type 0 = λ m. IsSome (live_object m number) in
    alive_by most spans cells shape number (two_ways _) (subst P (sym view) h)

-- what is left lies among as many cells as before
pub room_left : (spans found : List Span) (number room : ℕ) → found ≡ left_of spans number → number < length spans → HasRoom spans room → HasRoom found room
room_left spans found number room e h r =
    let P : List Span → Type 0 = λ x. HasRoom x room in
    subst P (sym e) (record { within = λ n a. let s = still_alive spans number n h a in rw s.same (r.within n s.alive) })

-- Items by the part in which they stand, and parts that change.
use Rattle.std.proofs.Common.{◌≡◌, ◌≢◌, ℕ, zero, suc, ◌+◌, ◌-◌, ◌<◌, ◌≤◌, Bool, true, false, ◌⊎◌, inl, inr, Some, List, [], ◌∷◌, ◌++◌, map, length, get_or, set, take, drop, refl, sym, ap, subst, ◌∙◌, arith, length-append, length-drop, length-set, get_or-set_other, get_or-set_same}
use Rattle.std.specs.Prelude.{slice_get}
use Rattle.std.specs.List.{flat_map}
use Rattle.std.proofs.lemmas.Bool.{cases_eq, cases_lt}
use Rattle.std.proofs.lemmas.Grind.{flat_map-append}
use Rattle.std.proofs.Math.Seq.{take-append-add, take-append_seam, drop-append-add, drop-append_seam, set-append_seam}
use Rattle.cr_sequence.specs.Kept.{repeated}
use Rattle.std.proofs.lemmas.List.{length-map, take-append-drop, drop_more, length-take-le, take_more, take_all, take-set-le, take-append-le, get_or_append_left, get_or-append_right, set-append_left, set-append_right}
use Rattle.std.proofs.lemmas.Option.{slice_get_within, slice_get-get_or, get_or_from_slice_get}
use Rattle.cr_sequence.specs.declared.sequence.Part.{Part}
use Rattle.cr_sequence.specs.Stretches.{items_in, all_items, AreCounted, BeginsBy, BeginsFrom, Holds, Placed, Changes, ChangesTo, Done, filled, replaced}

-- the items of the parts before one
abbrev pub before : {X : Type 0} → List (Part X) → ℕ → List X
before parts number = flat_map items_in (take number parts)

-- those of the parts behind one
abbrev pub behind : {X : Type 0} → List (Part X) → ℕ → List X
behind parts number = flat_map items_in (drop (suc number) parts)

-- ---- one part among the others

pub changed : {X : Type 0} (parts : List (Part X)) (number : ℕ) (part new : Part X) → slice_get parts number ≡ Some part
    → flat_map items_in (set parts number new) ≡ before parts number ++ (items_in new ++ behind parts number)
changed [] number part new e = absurd (cc e)
changed (x ∷ xs) zero part new e = refl
changed (x ∷ xs) (suc n) part new e =
    ap (λ r. items_in x ++ r) (changed xs n part new e) ∙ sym (joined (items_in x) (before xs n) (items_in new ++ behind xs n))
  where
    joined : {X : Type 0} (a b c : List X) → (a ++ b) ++ c ≡ a ++ (b ++ c)
    joined [] b c = refl
    joined (x ∷ a) b c = ap (λ r. x ∷ r) (joined a b c)

pub unchanged : {X : Type 0} (parts : List (Part X)) (number : ℕ) (part : Part X) → slice_get parts number ≡ Some part
    → flat_map items_in parts ≡ before parts number ++ (items_in part ++ behind parts number)
unchanged parts number part e =
    ap (flat_map items_in) (sym (same parts number part e)) ∙ changed parts number part part e
  where
    same : {Y : Type 0} (xs : List Y) (n : ℕ) (x : Y) → slice_get xs n ≡ Some x → set xs n x ≡ xs
    same [] n x e = absurd (cc e)
    same (y ∷ ys) zero x e = let i : y ≡ x = cc e in ap (λ r. r ∷ ys) (sym i)
    same (y ∷ ys) (suc n) x e = ap (λ r. y ∷ r) (same ys n x e)

-- a part of as many items
pub same_lengths : {X : Type 0} (parts : List (Part X)) (number index : ℕ) (part new : Part X) → slice_get parts number ≡ Some part
    → length (items_in new) ≡ length (items_in part) → length (before (set parts number new) index) ≡ length (before parts index)
same_lengths parts number zero part new e size = refl
same_lengths [] number (suc index) part new e size = absurd (cc e)
same_lengths (x ∷ xs) zero (suc index) part new e size =
    let i : x ≡ part = cc e in
    let own = ap (λ p. length (items_in p)) i in
    omega (arith, size, length-append (items_in new) (before xs index), length-append (items_in x) (before xs index))
same_lengths (x ∷ xs) (suc n) (suc index) part new e size =
    omega (arith, same_lengths xs n index part new e size, length-append (items_in x) (before (set xs n new) index), length-append (items_in x) (before xs index))

pub upto : {X : Type 0} (parts : List (Part X)) (number : ℕ) (part : Part X) → slice_get parts number ≡ Some part
    → length (before parts (number + 1)) ≡ length (before parts number) + length (items_in part)
upto parts number part e =
    let more = take_more parts number part (slice_get_within parts number part e) in
    let own = get_or_from_slice_get parts number part part e in
    let two = flat_map-append items_in (take number parts) (part ∷ []) in
    let one = length-append (items_in part) [] in
    ap (λ ps. length (flat_map items_in ps)) (more ∙ ap (λ p. take number parts ++ p ∷ []) own)
    ∙ ap length two
    ∙ length-append (before parts number) (items_in part ++ [])
    ∙ ap (λ n. length (before parts number) + n) (omega (arith, one))

-- ---- where an index stands

ends_by : {X : Type 0} (count : ℕ) (flat : List X) (parts : List (Part X)) (index number : ℕ) (part : Part X) → AreCounted count flat parts
    → Holds parts index number → index < count → slice_get parts number ≡ Some part → (number + 1 < length parts) ⊎ (length parts ≤ number + 1)
    → index < part.start + length (items_in part)
ends_by count flat parts index number part counted holds h e (inl more) =
    let next = get_or parts (number + 1) part in
    let is = slice_get-get_or parts (number + 1) part more in
    let after = holds.next next is in
    let start = counted.starts (number + 1) next is in
    let own = counted.starts number part e in
    omega (arith, upto parts number part e)
ends_by count flat parts index number part counted holds h e (inr last) =
    let own = counted.starts number part e in
    let all = ap (λ ps. length (flat_map items_in ps)) (take_all (number + 1) parts last) in
    let whole = counted.counted in
    omega (arith, upto parts number part e, length-append flat (flat_map items_in parts))

pub placed : {X : Type 0} (count : ℕ) (flat : List X) (parts : List (Part X)) (index number : ℕ) (part : Part X) → AreCounted count flat parts
    → Holds parts index number → index < count → slice_get parts number ≡ Some part → Placed flat parts index part number
placed count flat parts index number part counted holds h e =
    let from = holds.from part e in
    let ends = ends_by count flat parts index number part counted holds h e (cases_lt (number + 1) (length parts)) in
    record { from = from; within = omega arith; start = counted.starts number part e; is = e }

-- there are parts, where an index isn't among the plain items, and the first begins before it
pub some_part : {X : Type 0} (count : ℕ) (flat : List X) (parts : List (Part X)) (index : ℕ) → AreCounted count flat parts → index < count → length flat ≤ index
    → (0 < length parts) × ((part : Part X) → slice_get parts 0 ≡ Some part → part.start ≤ index)
some_part count flat [] index counted h past = let c = counted.counted in absurd (omega (arith, length-append flat []))
some_part count flat (x ∷ xs) index counted h past = (omega arith, λ part e. let s = counted.starts 0 part e in omega arith)

pub read : {X : Type 0} (flat : List X) (parts : List (Part X)) (index number : ℕ) (part : Part X) (item : X) → Placed flat parts index part number
    → slice_get (items_in part) (index - part.start) ≡ Some item → slice_get (all_items flat parts) index ≡ Some item
read flat parts index number part item at e =
    let rest = before parts number ++ (items_in part ++ behind parts number) in
    let whole = unchanged parts number part at.is in
    let start = at.start in
    let from = at.from in
    let within = at.within in
    let n = length-append flat rest in
    let m = length-append (before parts number) (items_in part ++ behind parts number) in
    let k = length-append (items_in part) (behind parts number) in
    let place = index - part.start in
    let item_at : get_or (flat ++ rest) index item ≡ item =
    get_or-append_right flat rest (length flat) index item refl (omega arith)
    ∙ get_or-append_right (before parts number) (items_in part ++ behind parts number) (length (before parts number)) (index - length flat) item refl (omega arith)
    ∙ ap (λ i. get_or (items_in part ++ behind parts number) i item) (omega arith)
    ∙ get_or_append_left (items_in part) (behind parts number) item place within
    ∙ get_or_from_slice_get (items_in part) place item item e in
    ap (λ r. slice_get (flat ++ r) index) whole
    ∙ slice_get-get_or (flat ++ rest) index item (omega arith)
    ∙ ap Some item_at

-- ---- what a part's change does to the whole

pub written : {X : Type 0} (flat : List X) (parts : List (Part X)) (index number : ℕ) (part new : Part X) (item : X) → Placed flat parts index part number
    → items_in new ≡ set (items_in part) (index - part.start) item
    → all_items flat (set parts number new) ≡ set (all_items flat parts) index item
written flat parts index number part new item at e =
    let rest = before parts number ++ (items_in part ++ behind parts number) in
    let start = at.start in
    let from = at.from in
    let within = at.within in
    let place = index - part.start in
    let there : set (flat ++ rest) index item ≡ flat ++ (before parts number ++ (set (items_in part) place item ++ behind parts number)) =
    set-append_right flat rest (length flat) index item refl (omega arith)
    ∙ ap (λ r. flat ++ r) (
    set-append_right (before parts number) (items_in part ++ behind parts number) (length (before parts number)) (index - length flat) item refl (omega arith)
    ∙ ap (λ r. before parts number ++ r) (
    ap (λ i. set (items_in part ++ behind parts number) i item) (omega arith)
    ∙ set-append_left (items_in part) (behind parts number) place item within)) in
    ap (λ r. flat ++ r) (changed parts number part new at.is ∙ ap (λ own. before parts number ++ (own ++ behind parts number)) e)
    ∙ sym there
    ∙ ap (λ r. set (flat ++ r) index item) (sym (unchanged parts number part at.is))

at_set : {X : Type 0} (parts : List (Part X)) (number index : ℕ) (part new own : Part X) → slice_get parts number ≡ Some part → new.start ≡ part.start
    → (index ≡ number) ⊎ (index ≢ number) → slice_get (set parts number new) index ≡ Some own
    → (prior : Part X) × ((slice_get parts index ≡ Some prior) × (own.start ≡ prior.start))
at_set parts number index part new own e start (inl same) is =
    let h = slice_get_within parts number part e in
    let there : slice_get (set parts number new) number ≡ Some new =
    slice_get-get_or (set parts number new) number new (omega (arith, length-set parts number new)) ∙ ap Some (get_or-set_same parts number new new h) in
    let found : slice_get (set parts number new) number ≡ Some own = ap (λ i. slice_get (set parts number new) i) (sym same) ∙ is in
    let one : own ≡ new = cc (there, found) in
    (part, (ap (slice_get parts) same ∙ e, ap (λ p. p.start) one ∙ start))
at_set parts number index part new own e start (inr other) is =
    let h = slice_get_within (set parts number new) index own is in
    let kept : get_or parts index own ≡ own = sym (get_or-set_other parts number index new own other) ∙ get_or_from_slice_get (set parts number new) index own own is in
    (own, (slice_get-get_or parts index own (omega (arith, length-set parts number new)) ∙ ap Some kept, refl))

-- a part that has as many items as before
pub kept : {X : Type 0} (count : ℕ) (flat : List X) (parts : List (Part X)) (number : ℕ) (part new : Part X) → AreCounted count flat parts
    → slice_get parts number ≡ Some part → new.start ≡ part.start → length (items_in new) ≡ length (items_in part)
    → AreCounted count flat (set parts number new)
kept count flat parts number part new counted e start size = record {
  counted =
      let one = ap length (changed parts number part new e) in
      let two = ap length (unchanged parts number part e) in
      let c = counted.counted in
      omega (
        arith,
        size,
        length-append flat (flat_map items_in parts),
        length-append flat (flat_map items_in (set parts number new)),
        length-append (before parts number) (items_in new ++ behind parts number),
        length-append (items_in new) (behind parts number),
        length-append (before parts number) (items_in part ++ behind parts number),
        length-append (items_in part) (behind parts number),
      );
  few = counted.few;
  starts = λ index own is.
      let p = at_set parts number index part new own e start (cases_eq index number) is in
      let s = counted.starts index p.0 p.1.0 in
      let same = p.1.1 in
      omega (arith, same_lengths parts number index part new e size);
}

-- the last part, with other items
pub last_changed : {X : Type 0} (flat : List X) (parts : List (Part X)) (number : ℕ) (part new : Part X) → slice_get parts number ≡ Some part → length parts ≡ number + 1
    → all_items flat (set parts number new) ≡ (flat ++ before parts number) ++ items_in new
last_changed flat parts number part new e last =
    let none : drop (suc number) parts ≡ [] = past parts (suc number) (omega arith) in
    ap (λ r. flat ++ r) (changed parts number part new e ∙ ap (λ r. before parts number ++ (items_in new ++ flat_map items_in r)) none ∙ ap (λ r. before parts number ++ r) (nil (items_in new)))
    ∙ sym (joined flat (before parts number) (items_in new))
  where
    past : {Y : Type 0} (xs : List Y) (n : ℕ) → length xs ≤ n → drop n xs ≡ []
    past [] zero h = refl
    past [] (suc n) h = refl
    past (x ∷ xs) zero h = absurd (omega arith)
    past (x ∷ xs) (suc n) h = past xs n (omega arith)

    nil : {Y : Type 0} (xs : List Y) → xs ++ [] ≡ xs
    nil [] = refl
    nil (x ∷ xs) = ap (λ r. x ∷ r) (nil xs)

    joined : {Y : Type 0} (a b c : List Y) → (a ++ b) ++ c ≡ a ++ (b ++ c)
    joined [] b c = refl
    joined (x ∷ a) b c = ap (λ r. x ∷ r) (joined a b c)

pub last_kept : {X : Type 0} (count then : ℕ) (flat : List X) (parts : List (Part X)) (number : ℕ) (part new : Part X) → AreCounted count flat parts
    → slice_get parts number ≡ Some part → length parts ≡ number + 1 → new.start ≡ part.start
    → then ≡ length (all_items flat (set parts number new)) → then ≤ 2199023255552 → AreCounted then flat (set parts number new)
last_kept count then flat parts number part new counted e last start size few = record {
  counted = size;
  few = few;
  starts = λ index own is.
      let p = at_set parts number index part new own e start (cases_eq index number) is in
      let s = counted.starts index p.0 p.1.0 in
      let same = p.1.1 in
      let h = slice_get_within (set parts number new) index own is in
      omega (arith, ap (λ ps. length (flat_map items_in ps)) (take-set-le index parts number new (omega (arith, length-set parts number new))));
}

at_end : {Y : Type 0} (xs : List Y) (x y : Y) → slice_get (xs ++ x ∷ []) (length xs) ≡ Some y → x ≡ y
at_end [] x y e = cc e
at_end (z ∷ zs) x y e = at_end zs x y e

-- one more part
pub part_more : {X : Type 0} (count then : ℕ) (flat : List X) (parts : List (Part X)) (part : Part X) → AreCounted count flat parts → part.start ≡ count
    → then ≡ length (all_items flat (parts ++ part ∷ [])) → then ≤ 2199023255552 → AreCounted then flat (parts ++ part ∷ [])
part_more count then flat parts part counted start size few = record {
  counted = size;
  few = few;
  starts = λ index own is. starts_by count flat parts index part own counted start is (cases_lt index (length parts));
}
  where
    starts_by : {X : Type 0} (count : ℕ) (flat : List X) (parts : List (Part X)) (index : ℕ) (part own : Part X) → AreCounted count flat parts → part.start ≡ count
        → slice_get (parts ++ part ∷ []) index ≡ Some own → (index < length parts) ⊎ (length parts ≤ index)
        → own.start ≡ length flat + length (before (parts ++ part ∷ []) index)
    starts_by count flat parts index part own counted start is (inl h) =
        let there : get_or parts index own ≡ own =
        sym (get_or_append_left parts (part ∷ []) own index h) ∙ get_or_from_slice_get (parts ++ part ∷ []) index own own is in
        let s = counted.starts index own (slice_get-get_or parts index own h ∙ ap Some there) in
        omega (arith, ap (λ ps. length (flat_map items_in ps)) (take-append-le index parts (part ∷ []) (omega arith)))
    starts_by count flat parts index part own counted start is (inr past) =
        let h = slice_get_within (parts ++ part ∷ []) index own is in
        let n : length (parts ++ part ∷ []) ≡ length parts + 1 = length-append parts (part ∷ []) in
        let at : index ≡ length parts = omega arith in
        let found : slice_get (parts ++ part ∷ []) (length parts) ≡ Some own = ap (slice_get (parts ++ part ∷ [])) (sym at) ∙ is in
        let one : part ≡ own = at_end parts part own found in
        let first : own.start ≡ count = ap (λ p. p.start) (sym one) ∙ start in
        let c = counted.counted in
        let whole : take index (parts ++ part ∷ []) ≡ parts = take-append-le index parts (part ∷ []) (omega arith) ∙ take_all index parts (omega arith) in
        let size : length (before (parts ++ part ∷ []) index) ≡ length (flat_map items_in parts) = ap (λ ps. length (flat_map items_in ps)) whole in
        omega (arith, length-append flat (flat_map items_in parts))

pub more_shown : {X : Type 0} (flat : List X) (parts : List (Part X)) (part : Part X) → all_items flat (parts ++ part ∷ []) ≡ all_items flat parts ++ items_in part
more_shown flat parts part =
    ap (λ r. flat ++ r) (flat_map-append items_in parts (part ∷ []) ∙ ap (λ r. flat_map items_in parts ++ r) (nil (items_in part)))
    ∙ sym (joined flat (flat_map items_in parts) (items_in part))
  where
    nil : {Y : Type 0} (xs : List Y) → xs ++ [] ≡ xs
    nil [] = refl
    nil (x ∷ xs) = ap (λ r. x ∷ r) (nil xs)

    joined : {Y : Type 0} (a b c : List Y) → (a ++ b) ++ c ≡ a ++ (b ++ c)
    joined [] b c = refl
    joined (x ∷ a) b c = ap (λ r. x ∷ r) (joined a b c)

-- the first parts alone
pub fewer : {X : Type 0} (count then : ℕ) (flat : List X) (parts : List (Part X)) (number : ℕ) → AreCounted count flat parts
    → then ≡ length (all_items flat (take number parts)) → then ≤ 2199023255552 → AreCounted then flat (take number parts)
fewer count then flat parts number counted size few = record {
  counted = size;
  few = few;
  starts = λ index own is.
      let h = slice_get_within (take number parts) index own is in
      let b = bound number index parts h in
      let there : get_or parts index own ≡ own = sym (get_or_take number parts index own b.0) ∙ get_or_from_slice_get (take number parts) index own own is in
      let s = counted.starts index own (slice_get-get_or parts index own b.1 ∙ ap Some there) in
      omega (arith, ap (λ ps. length (flat_map items_in ps)) (taken number index parts (omega arith)));
}
  where
    bound : {Y : Type 0} (number index : ℕ) (xs : List Y) → index < length (take number xs) → (index < number) × (index < length xs)
    bound zero index xs h = absurd (omega arith)
    bound (suc n) index [] h = absurd (omega arith)
    bound (suc n) zero (x ∷ xs) h = (omega arith, omega arith)
    bound (suc n) (suc i) (x ∷ xs) h = let b = bound n i xs (omega arith) in (omega (arith, b.0), omega (arith, b.1))

    get_or_take : {Y : Type 0} (number : ℕ) (xs : List Y) (index : ℕ) (d : Y) → index < number → get_or (take number xs) index d ≡ get_or xs index d
    get_or_take zero xs index d h = absurd (omega arith)
    get_or_take (suc n) [] index d h = refl
    get_or_take (suc n) (x ∷ xs) zero d h = refl
    get_or_take (suc n) (x ∷ xs) (suc i) d h = get_or_take n xs i d (omega arith)

    taken : {Y : Type 0} (number index : ℕ) (xs : List Y) → index ≤ number → take index (take number xs) ≡ take index xs
    taken number zero xs h = refl
    taken zero (suc i) xs h = absurd (omega arith)
    taken (suc n) (suc i) [] h = refl
    taken (suc n) (suc i) (x ∷ xs) h = ap (λ r. x ∷ r) (taken n i xs (omega arith))

-- ---- what the calls leave

pub there : {Y : Type 0} (xs : List Y) (n : ℕ) → n < length xs → (x : Y) × (slice_get xs n ≡ Some x)
there [] n h = absurd (omega arith)
there (x ∷ xs) zero h = (x, refl)
there (x ∷ xs) (suc n) h = there xs n (omega arith)

pub set_done : {X : Type 0} (count : ℕ) (flat : List X) (parts then : List (Part X)) (index number place : ℕ) (item : X) → AreCounted count flat parts → number < length parts
    → ((part : Part X) → slice_get parts number ≡ Some part → (place ≡ index - part.start) × Placed flat parts index part number)
    → ChangesTo parts number then (λ part. set (items_in part) place item) → Done count flat then (set (all_items flat parts) index item)
set_done {X = X} count flat parts then index number place item counted h placed changes =
    let part = there parts number h in
    let at = placed part.0 part.1 in
    let change = changes part.0 part.1 in
    let P : List (Part X) → Type 0 = λ ps. Done count flat ps (set (all_items flat parts) index item) in
    let own : items_in change.new ≡ set (items_in part.0) (index - part.0.start) item = change.shows ∙ ap (λ k. set (items_in part.0) k item) at.0 in
    subst P (sym change.is) (record {
      counted = kept count flat parts number part.0 change.new counted part.1 change.start (ap length own ∙ length-set (items_in part.0) (index - part.0.start) item);
      shown = written flat parts index number part.0 change.new item at.1 own;
    })

-- the last part changes
pub last_done : {X : Type 0} (count size : ℕ) (flat : List X) (parts then : List (Part X)) (number : ℕ) (own : Part X → List X) (items : List X) → AreCounted count flat parts
    → length parts ≡ number + 1 → ChangesTo parts number then own
    → ((part : Part X) → slice_get parts number ≡ Some part → part.start ≡ length flat + length (before parts number) → (flat ++ before parts number) ++ own part ≡ items)
    → length items ≡ size → size ≤ 2199023255552 → Done size flat then items
last_done {X = X} count size flat parts then number own items counted last changes shows e few =
    let part = there parts number (omega arith) in
    let change = changes part.0 part.1 in
    let P : List (Part X) → Type 0 = λ ps. Done size flat ps items in
    let shown = last_changed flat parts number part.0 change.new part.1 last
    ∙ ap (λ r. (flat ++ before parts number) ++ r) change.shows ∙ shows part.0 part.1 (counted.starts number part.0 part.1) in
    subst P (sym change.is) (record {
      counted = last_kept count size flat parts number part.0 change.new counted part.1 last change.start (sym (ap length shown ∙ e)) few;
      shown = shown;
    })

-- the whole, where the last part is the one of a number
pub by_last : {X : Type 0} (flat : List X) (parts : List (Part X)) (number : ℕ) (part : Part X) → slice_get parts number ≡ Some part → length parts ≡ number + 1
    → (flat ++ before parts number) ++ items_in part ≡ all_items flat parts
by_last flat parts number part e last =
    sym (last_changed flat parts number part part e last) ∙ ap (λ ps. flat ++ flat_map items_in ps) (same parts number part e)
  where
    same : {Y : Type 0} (xs : List Y) (n : ℕ) (x : Y) → slice_get xs n ≡ Some x → set xs n x ≡ xs
    same [] n x e = absurd (cc e)
    same (y ∷ ys) zero x e = let i : y ≡ x = cc e in ap (λ r. r ∷ ys) (sym i)
    same (y ∷ ys) (suc n) x e = ap (λ r. y ∷ r) (same ys n x e)

joined_end : {Y : Type 0} (a b c : List Y) → (a ++ b) ++ c ≡ a ++ (b ++ c)
joined_end [] b c = refl
joined_end (x ∷ a) b c = ap (λ r. x ∷ r) (joined_end a b c)

pub push_done : {X : Type 0} (count : ℕ) (flat : List X) (parts then : List (Part X)) (number : ℕ) (item : X) → AreCounted count flat parts
    → length parts ≡ number + 1 → ChangesTo parts number then (λ part. items_in part ++ item ∷ []) → count + 1 ≤ 2199023255552
    → Done (count + 1) flat then (all_items flat parts ++ item ∷ [])
push_done count flat parts then number item counted last changes few =
    last_done count (count + 1) flat parts then number (λ part. items_in part ++ item ∷ []) (all_items flat parts ++ item ∷ []) counted last changes
    (λ part is start. sym (joined_end (flat ++ before parts number) (items_in part) (item ∷ [])) ∙ ap (λ r. r ++ item ∷ []) (by_last flat parts number part is last))
    (let c = counted.counted in omega (arith, length-append (all_items flat parts) (item ∷ []))) few

pub refused_done : {X : Type 0} (count : ℕ) (flat : List X) (parts then : List (Part X)) (number : ℕ) → AreCounted count flat parts
    → length parts ≡ number + 1 → ChangesTo parts number then (λ part. items_in part) → Done count flat then (all_items flat parts)
refused_done count flat parts then number counted last changes =
    last_done count count flat parts then number (λ part. items_in part) (all_items flat parts) counted last changes
    (λ part is start. by_last flat parts number part is last) (sym counted.counted) (let f = counted.few in omega arith)

pub cut_done : {X : Type 0} (count size : ℕ) (flat : List X) (parts then : List (Part X)) (number cut : ℕ) → AreCounted count flat parts
    → length parts ≡ number + 1 → ChangesTo parts number then (λ part. take cut (items_in part)) → size ≤ count
    → ((part : Part X) → slice_get parts number ≡ Some part → part.start + cut ≡ size)
    → Done size flat then (take size (all_items flat parts))
cut_done count size flat parts then number cut counted last changes less ends =
    last_done count size flat parts then number (λ part. take cut (items_in part)) (take size (all_items flat parts)) counted last changes
    (λ part is start.
    let e = ends part is in
    let n : length (flat ++ before parts number) ≡ length flat + length (before parts number) = length-append flat (before parts number) in
    sym (ap (λ k. take k ((flat ++ before parts number) ++ items_in part)) (omega arith) ∙ take-append-add (flat ++ before parts number) (items_in part) cut)
    ∙ ap (take size) (by_last flat parts number part is last))
    (let c = counted.counted in length-take-le size (all_items flat parts) (omega arith)) (let f = counted.few in omega arith)

-- the plain items change
pub flat_set : {X : Type 0} (count : ℕ) (flat : List X) (parts : List (Part X)) (index : ℕ) (item : X) → AreCounted count flat parts → index < length flat
    → Done count (set flat index item) parts (set (all_items flat parts) index item)
flat_set count flat parts index item counted h = record {
  counted = record {
    counted = let c = counted.counted in
        omega (arith, length-append flat (flat_map items_in parts), length-append (set flat index item) (flat_map items_in parts), length-set flat index item);
    few = counted.few;
    starts = λ number part is. let s = counted.starts number part is in omega (arith, length-set flat index item);
  };
  shown = sym (set-append_left flat (flat_map items_in parts) index item h);
}

-- only plain items are there
pub flat_alone : {X : Type 0} (count : ℕ) (flat : List X) → count ≡ length flat → count ≤ 2199023255552 → Done count flat [] flat
flat_alone count flat e few = record {
  counted = record {
    counted = omega (arith, length-append flat []);
    few = few;
    starts = λ number part is. absurd (cc is);
  };
  shown = nil flat;
}
  where
    nil : {Y : Type 0} (xs : List Y) → xs ++ [] ≡ xs
    nil [] = refl
    nil (x ∷ xs) = ap (λ r. x ∷ r) (nil xs)

-- ---- what the calls read

pub flat_read : {X : Type 0} (flat : List X) (parts : List (Part X)) (index : ℕ) (item : X) → index < length flat → item ≡ get_or flat index item
    → slice_get (all_items flat parts) index ≡ Some item
flat_read flat parts index item h e =
    let n = length-append flat (flat_map items_in parts) in
    slice_get-get_or (all_items flat parts) index item (omega arith)
    ∙ ap Some (get_or_append_left flat (flat_map items_in parts) item index h ∙ sym e)

pub part_read : {X : Type 0} (flat : List X) (parts : List (Part X)) (index number place : ℕ) (item : X) → number < length parts
    → ((part : Part X) → slice_get parts number ≡ Some part → (place ≡ index - part.start) × Placed flat parts index part number)
    → ((part : Part X) → slice_get parts number ≡ Some part → slice_get (items_in part) place ≡ Some item)
    → slice_get (all_items flat parts) index ≡ Some item
part_read flat parts index number place item h placed found =
    let part = there parts number h in
    let at = placed part.0 part.1 in
    read flat parts index number part.0 item at.1 (ap (slice_get (items_in part.0)) (sym at.0) ∙ found part.0 part.1)

-- ---- the ends

pub flat_push : {X : Type 0} (count : ℕ) (flat : List X) (parts : List (Part X)) (item : X) → AreCounted count flat parts → length parts ≡ 0
    → count + 1 ≤ 2199023255552 → Done (count + 1) (flat ++ item ∷ []) parts (all_items flat parts ++ item ∷ [])
flat_push count flat (x ∷ xs) item counted none few = absurd (omega arith)
flat_push count flat [] item counted none few =
    let c = counted.counted in
    let n : length (flat ++ []) ≡ length flat + 0 = length-append flat [] in
    let m : length (flat ++ item ∷ []) ≡ length flat + 1 = length-append flat (item ∷ []) in
    let made = flat_alone (count + 1) (flat ++ item ∷ []) (omega arith) few in
    record { counted = made.counted; shown = made.shown ∙ ap (λ r. r ++ item ∷ []) (sym (flat_alone count flat (omega arith) counted.few).shown) }

pub flat_cut : {X : Type 0} (count size : ℕ) (flat : List X) (parts : List (Part X)) → AreCounted count flat parts → length parts ≡ 0 → size ≤ count
    → Done size (take size flat) parts (take size (all_items flat parts))
flat_cut count size flat (x ∷ xs) counted none less = absurd (omega arith)
flat_cut count size flat [] counted none less =
    let c = counted.counted in
    let f = counted.few in
    let n : length (flat ++ []) ≡ length flat + 0 = length-append flat [] in
    let m : length (take size flat) ≡ size = length-take-le size flat (omega arith) in
    let made = flat_alone size (take size flat) (sym m) (omega arith) in
    record { counted = made.counted; shown = made.shown ∙ ap (take size) (sym (flat_alone count flat (omega arith) counted.few).shown) }

pub record Cut {X : Type 0} (size : ℕ) (flat : List X) (parts then : List (Part X)) : Type 0 where
  pub counted : AreCounted (length (all_items flat then)) flat then
  pub enough : size ≤ length (all_items flat then)
  pub same : take size (all_items flat then) ≡ take size (all_items flat parts)

cut_by : {X : Type 0} (count size kept : ℕ) (flat : List X) (parts : List (Part X)) → AreCounted count flat parts → kept ≤ length parts → size ≤ count
    → BeginsFrom parts kept size → (kept < length parts) ⊎ (length parts ≤ kept) → Cut size flat parts (take kept parts)
cut_by count size kept flat parts counted h less later (inr all) =
    let same = take_all kept parts all in
    let c = counted.counted in
    rw same (record { counted = subst (λ n. AreCounted n flat parts) c counted; enough = omega arith; same = refl })
cut_by {X = X} count size kept flat parts counted h less later (inl more) =
    let part = there parts kept more in
    let start = counted.starts kept part.0 part.1 in
    let low = later part.0 part.1 in
    let f = counted.few in
    let c = counted.counted in
    let rest = items_in part.0 ++ behind parts kept in
    let whole : all_items flat parts ≡ (flat ++ before parts kept) ++ rest =
    ap (λ r. flat ++ r) (unchanged parts kept part.0 part.1) ∙ sym (joined_end flat (before parts kept) rest) in
    let n : length (flat ++ before parts kept) ≡ length flat + length (before parts kept) = length-append flat (before parts kept) in
    let m : length ((flat ++ before parts kept) ++ rest) ≡ length (flat ++ before parts kept) + length rest = length-append (flat ++ before parts kept) rest in
    let w : length (all_items flat parts) ≡ length ((flat ++ before parts kept) ++ rest) = ap length whole in
    record {
      counted = fewer count (length (flat ++ before parts kept)) flat parts kept counted refl (omega arith);
      enough = omega arith;
      same = sym (ap (take size) whole ∙ take-append-le size (flat ++ before parts kept) rest (omega arith));
    }

pub parts_cut : {X : Type 0} (count size kept : ℕ) (flat : List X) (parts : List (Part X)) → AreCounted count flat parts → kept ≤ length parts → size ≤ count
    → BeginsFrom parts kept size → Cut size flat parts (take kept parts)
parts_cut count size kept flat parts counted h less later = cut_by count size kept flat parts counted h less later (cases_lt kept (length parts))

-- one of the first
taken_at : {Y : Type 0} (xs : List Y) (n : ℕ) (x : Y) → slice_get (take (suc n) xs) n ≡ Some x → slice_get xs n ≡ Some x
taken_at [] n x e = e
taken_at (y ∷ ys) zero x e = e
taken_at (y ∷ ys) (suc n) x e = taken_at ys n x e

pub taken_part : {Y : Type 0} (xs : List Y) (kept : ℕ) (x : Y) → 0 < kept → slice_get (take kept xs) (kept - 1) ≡ Some x → slice_get xs (kept - 1) ≡ Some x
taken_part xs kept x some e =
    let next : suc (kept - 1) ≡ kept = omega arith in
    taken_at xs (kept - 1) x (ap (λ k. slice_get (take k xs) (kept - 1)) next ∙ e)

-- ---- one more stretch

pub stretch_done : {X : Type 0} (count size : ℕ) (flat : List X) (parts : List (Part X)) (part : Part X) (own : List X) → AreCounted count flat parts → part.start ≡ count
    → items_in part ≡ own → size ≡ count + length own → size ≤ 2199023255552 → Done size flat (parts ++ part ∷ []) (all_items flat parts ++ own)
stretch_done count size flat parts part own counted start is e few =
    let shown = more_shown flat parts part ∙ ap (λ r. all_items flat parts ++ r) is in
    let c = counted.counted in
    let n = ap length shown in
    record {
      counted = part_more count size flat parts part counted start (omega (arith, length-append (all_items flat parts) own)) few;
      shown = shown;
    }

-- ---- one part by what an index reads

pub own_part : {Y : Type 0} (xs : List Y) (n : ℕ) (own : Y) → n < length xs → own ≡ get_or xs n own → slice_get xs n ≡ Some own
own_part xs n own h e = slice_get-get_or xs n own h ∙ ap Some (sym e)

pub one_part : {Y : Type 0} (xs : List Y) (n : ℕ) (own y : Y) → n < length xs → own ≡ get_or xs n own → slice_get xs n ≡ Some y → own ≡ y
one_part xs n own y h e is = let found = own_part xs n own h e in cc (found, is)

pub placed_there : {X : Type 0} (parts : List (Part X)) (number place : ℕ) (own : Part X) → number < length parts → own ≡ get_or parts number own
    → ((part : Part X) → slice_get parts number ≡ Some part → place < length (items_in part)) → place < length (items_in own)
placed_there parts number place own h e within = within own (own_part parts number own h e)

pub same_read : {X : Type 0} (parts : List (Part X)) (number place : ℕ) (own part : Part X) (item : X) → number < length parts → own ≡ get_or parts number own
    → slice_get parts number ≡ Some part → slice_get (items_in own) place ≡ Some item → slice_get (items_in part) place ≡ Some item
same_read parts number place own part item h e is read =
    ap (λ p. slice_get (items_in p) place) (sym (one_part parts number own part h e is)) ∙ read

pub changed_by : {X : Type 0} (parts : List (Part X)) (number : ℕ) (part own new : Part X) (items : Part X → List X) → number < length parts
    → own ≡ get_or parts number own → slice_get parts number ≡ Some part → new.start ≡ own.start → items_in new ≡ items own
    → Changes parts number (set parts number new) part (items part)
changed_by parts number part own new items h e is start shows =
    let one = one_part parts number own part h e is in
    record { new = new; is = refl; start = start ∙ ap (λ p. p.start) one; shows = shows ∙ ap items one }

pub take_both : {Y : Type 0} (xs ys : List Y) (count : ℕ) → take count xs ++ take (count - length xs) ys ≡ take count (xs ++ ys)
take_both [] ys zero = refl
take_both [] ys (suc n) = let e : suc n - 0 ≡ suc n = omega arith in ap (λ k. take k ys) e
take_both (x ∷ xs) ys zero = let e : 0 - length (x ∷ xs) ≡ 0 = omega arith in ap (λ k. take k ys) e
take_both (x ∷ xs) ys (suc n) =
    let e : suc n - length (x ∷ xs) ≡ n - length xs = omega arith in
    ap (λ k. x ∷ (take n xs ++ take k ys)) e ∙ ap (λ r. x ∷ r) (take_both xs ys n)

pub alone_by : {Y : Type 0} (xs ys : List Y) → ys ≡ [] → xs ++ ys ≡ xs
alone_by xs ys e = ap (λ r. xs ++ r) e ∙ nil xs
  where
    nil : {Y : Type 0} (xs : List Y) → xs ++ [] ≡ xs
    nil [] = refl
    nil (x ∷ xs) = ap (λ r. x ∷ r) (nil xs)

pub flat_refused : {X : Type 0} (count : ℕ) (flat then : List X) (parts : List (Part X)) → AreCounted count flat parts → then ≡ flat → Done count then parts (all_items flat parts)
flat_refused {X = X} count flat then parts counted e =
    let P : List X → Type 0 = λ xs. Done count xs parts (all_items flat parts) in
    subst P (sym e) (record { counted = counted; shown = refl })

pub flat_pushed : {X : Type 0} (count : ℕ) (flat then : List X) (parts : List (Part X)) (item : X) → AreCounted count flat parts → length parts ≡ 0
    → count + 1 ≤ 2199023255552 → then ≡ flat ++ item ∷ [] → Done (count + 1) then parts (all_items flat parts ++ item ∷ [])
flat_pushed {X = X} count flat then parts item counted none few e =
    let P : List X → Type 0 = λ xs. Done (count + 1) xs parts (all_items flat parts ++ item ∷ []) in
    subst P (sym e) (flat_push count flat parts item counted none few)

-- what a cut leaves, where no part is kept, and where the last that is kept is cut
pub cut_flat : {X : Type 0} (count size kept : ℕ) (flat : List X) (parts : List (Part X)) → AreCounted count flat parts → kept ≤ length parts → size < count
    → BeginsFrom parts kept size → kept ≡ 0 → Done size (take size flat) (take kept parts) (take size (all_items flat parts))
cut_flat count size kept flat parts counted h less behind none =
    let cut = parts_cut count size kept flat parts counted h (omega arith) behind in
    let size_of : length (take kept parts) ≡ kept = length-take-le kept parts h in
    let done = flat_cut (length (all_items flat (take kept parts))) size flat (take kept parts) cut.counted (omega arith) cut.enough in
    record { counted = done.counted; shown = done.shown ∙ cut.same }

pub cut_last : {X : Type 0} (count size kept start cut : ℕ) (flat : List X) (parts then : List (Part X)) → AreCounted count flat parts → kept ≤ length parts → size < count
    → BeginsFrom parts kept size → 0 < kept → (0 < kept → BeginsBy parts (kept - 1) size)
    → ((part : Part X) → slice_get (take kept parts) (kept - 1) ≡ Some part → part.start ≡ start) → cut ≡ size - start
    → ChangesTo (take kept parts) (kept - 1) then (λ part. take cut (items_in part)) → Done size flat then (take size (all_items flat parts))
cut_last count size kept start cut flat parts then counted h less behind some before is e changes =
    let made = parts_cut count size kept flat parts counted h (omega arith) behind in
    let size_of : length (take kept parts) ≡ kept = length-take-le kept parts h in
    let done = cut_done (length (all_items flat (take kept parts))) size flat (take kept parts) then (kept - 1) cut made.counted (omega arith) changes made.enough
    (λ part at. let s = is part at in let b = before some part (taken_part parts kept part some at) in omega arith) in
    record { counted = done.counted; shown = done.shown ∙ made.same }

-- ---- so many items that are one value

map_const : {Y : Type 0} (xs : List Y) (value : Y) → map (λ _. value) xs ≡ repeated (length xs) (value ∷ [])
map_const [] value = refl
map_const (x ∷ xs) value = ap (λ r. value ∷ r) (map_const xs value)

filled_middle : {Y : Type 0} (xs own ys : List Y) (value : Y) → filled (xs ++ (own ++ ys)) (length xs) (length own) value ≡ xs ++ (map (λ _. value) own ++ ys)
filled_middle {Y = Y} xs own ys value =
    let made : List Y → List Y → List Y → List Y = λ a b c. a ++ (b ++ c) in
    let first : take (length xs) (xs ++ (own ++ ys)) ≡ xs = take-append_seam xs (own ++ ys) in
    let last : drop (length xs + length own) (xs ++ (own ++ ys)) ≡ ys = drop-append-add xs (own ++ ys) (length own) ∙ drop-append_seam own ys in
    ap (λ a. made a (repeated (length own) (value ∷ [])) (drop (length xs + length own) (xs ++ (own ++ ys)))) first
    ∙ ap (λ c. made xs (repeated (length own) (value ∷ [])) c) last
    ∙ ap (λ b. made xs b ys) (sym (map_const own value))

abbrev pub emptied : {X : Type 0} → X → Part X → List X
emptied value part = map (λ _. value) part.stretch ++ part.after.items

pub fill_done : {X : Type 0} (count : ℕ) (flat : List X) (parts then : List (Part X)) (from size number place : ℕ) (value : X) → AreCounted count flat parts → number < length parts
    → ((part : Part X) → slice_get parts number ≡ Some part → (place ≡ from - part.start) × Placed flat parts from part number)
    → place ≡ 0 → ((part : Part X) → slice_get parts number ≡ Some part → length part.stretch ≡ size)
    → ChangesTo parts number then (emptied value) → Done count flat then (filled (all_items flat parts) from size value)
fill_done {X = X} count flat parts then from size number place value counted h placed none whole changes =
    let part = there parts number h in
    let at = placed part.0 part.1 in
    let change = changes part.0 part.1 in
    let own = part.0.stretch in
    let more = part.0.after.items in
    let xs = flat ++ before parts number in
    let rest = behind parts number in
    let new_own : List X = map (λ _. value) own in
    let P : List (Part X) → Type 0 = λ ps. Done count flat ps (filled (all_items flat parts) from size value) in
    let low = at.1.from in
    let zero_place = at.0 in
    let start = at.1.start in
    let begin : length xs ≡ from = omega (arith, length-append flat (before parts number)) in
    let old : all_items flat parts ≡ xs ++ (own ++ (more ++ rest)) =
    ap (λ r. flat ++ r) (unchanged parts number part.0 part.1 ∙ ap (λ r. before parts number ++ r) (joined_end own more rest)) ∙ sym (joined_end flat (before parts number) (own ++ (more ++ rest))) in
    let made : all_items flat (set parts number change.new) ≡ xs ++ (new_own ++ (more ++ rest)) =
    ap (λ r. flat ++ r) (changed parts number part.0 change.new part.1 ∙ ap (λ r. before parts number ++ r) (ap (λ r. r ++ rest) change.shows ∙ joined_end new_own more rest))
    ∙ sym (joined_end flat (before parts number) (new_own ++ (more ++ rest))) in
    let shown : filled (all_items flat parts) from size value ≡ xs ++ (new_own ++ (more ++ rest)) =
    ap (λ r. filled r from size value) old
    ∙ ap (λ n. filled (xs ++ (own ++ (more ++ rest))) n size value) (sym begin)
    ∙ ap (λ n. filled (xs ++ (own ++ (more ++ rest))) (length xs) n value) (sym (whole part.0 part.1))
    ∙ filled_middle xs own (more ++ rest) value in
    let sizes : length (items_in change.new) ≡ length (items_in part.0) =
    ap length change.shows ∙ length-append new_own more ∙ ap (λ n. n + length more) (length-map own (λ _. value)) ∙ sym (length-append own more) in
    subst P (sym change.is) (record {
      counted = kept count flat parts number part.0 change.new counted part.1 change.start sizes;
      shown = made ∙ sym shown;
    })

-- ---- a whole stretch that is a pattern

-- the items that a whole stretch shows
pub whole_stretch : {X : Type 0} (count : ℕ) (flat : List X) (parts : List (Part X)) (from size number place : ℕ) → AreCounted count flat parts → number < length parts
    → ((part : Part X) → slice_get parts number ≡ Some part → (place ≡ from - part.start) × Placed flat parts from part number)
    → place ≡ 0 → ((part : Part X) → slice_get parts number ≡ Some part → length part.stretch ≡ size)
    → (part : Part X) → slice_get parts number ≡ Some part → take size (drop from (all_items flat parts)) ≡ part.stretch
whole_stretch {X = X} count flat parts from size number place counted h placed none whole part is =
    let at = placed part is in
    let own = part.stretch in
    let more = part.after.items in
    let xs = flat ++ before parts number in
    let rest = behind parts number in
    let low = at.1.from in
    let zero_place = at.0 in
    let start = at.1.start in
    let begin : length xs ≡ from = omega (arith, length-append flat (before parts number)) in
    let old : all_items flat parts ≡ xs ++ (own ++ (more ++ rest)) =
    ap (λ r. flat ++ r) (unchanged parts number part is ∙ ap (λ r. before parts number ++ r) (joined_end own more rest)) ∙ sym (joined_end flat (before parts number) (own ++ (more ++ rest))) in
    ap (λ r. take size (drop from r)) old
    ∙ ap (λ n. take size (drop n (xs ++ (own ++ (more ++ rest))))) (sym begin)
    ∙ ap (take size) (drop-append_seam xs (own ++ (more ++ rest)))
    ∙ ap (λ n. take n (own ++ (more ++ rest))) (sym (whole part is))
    ∙ take-append_seam own (more ++ rest)

replaced_middle : {Y : Type 0} (xs own ys new : List Y) → length new ≡ length own → replaced (xs ++ (own ++ ys)) (length xs) new ≡ xs ++ (new ++ ys)
replaced_middle {Y = Y} xs own ys new size =
    let made : List Y → List Y → List Y → List Y = λ a b c. a ++ (b ++ c) in
    let first : take (length xs) (xs ++ (own ++ ys)) ≡ xs = take-append_seam xs (own ++ ys) in
    let last : drop (length xs + length own) (xs ++ (own ++ ys)) ≡ ys = drop-append-add xs (own ++ ys) (length own) ∙ drop-append_seam own ys in
    ap (λ a. made a new (drop (length xs + length new) (xs ++ (own ++ ys)))) first
    ∙ ap (λ n. made xs new (drop (length xs + n) (xs ++ (own ++ ys)))) size
    ∙ ap (λ c. made xs new c) last

abbrev pub refilled : {X : Type 0} → List X → Part X → List X
refilled new part = new ++ part.after.items

pub refill_done : {X : Type 0} (count : ℕ) (flat : List X) (parts then : List (Part X)) (from number place : ℕ) (new : List X) → AreCounted count flat parts → number < length parts
    → ((part : Part X) → slice_get parts number ≡ Some part → (place ≡ from - part.start) × Placed flat parts from part number)
    → place ≡ 0 → ((part : Part X) → slice_get parts number ≡ Some part → length part.stretch ≡ length new)
    → ChangesTo parts number then (refilled new) → Done count flat then (replaced (all_items flat parts) from new)
refill_done {X = X} count flat parts then from number place new counted h placed none whole changes =
    let part = there parts number h in
    let at = placed part.0 part.1 in
    let change = changes part.0 part.1 in
    let own = part.0.stretch in
    let more = part.0.after.items in
    let xs = flat ++ before parts number in
    let rest = behind parts number in
    let P : List (Part X) → Type 0 = λ ps. Done count flat ps (replaced (all_items flat parts) from new) in
    let low = at.1.from in
    let zero_place = at.0 in
    let start = at.1.start in
    let size : length new ≡ length own = sym (whole part.0 part.1) in
    let begin : length xs ≡ from = omega (arith, length-append flat (before parts number)) in
    let old : all_items flat parts ≡ xs ++ (own ++ (more ++ rest)) =
    ap (λ r. flat ++ r) (unchanged parts number part.0 part.1 ∙ ap (λ r. before parts number ++ r) (joined_end own more rest)) ∙ sym (joined_end flat (before parts number) (own ++ (more ++ rest))) in
    let made : all_items flat (set parts number change.new) ≡ xs ++ (new ++ (more ++ rest)) =
    ap (λ r. flat ++ r) (changed parts number part.0 change.new part.1 ∙ ap (λ r. before parts number ++ r) (ap (λ r. r ++ rest) change.shows ∙ joined_end new more rest))
    ∙ sym (joined_end flat (before parts number) (new ++ (more ++ rest))) in
    let shown : replaced (all_items flat parts) from new ≡ xs ++ (new ++ (more ++ rest)) =
    ap (λ r. replaced r from new) old
    ∙ ap (λ n. replaced (xs ++ (own ++ (more ++ rest))) n new) (sym begin)
    ∙ replaced_middle xs own (more ++ rest) new size in
    let sizes : length (items_in change.new) ≡ length (items_in part.0) =
    ap length change.shows ∙ length-append new more ∙ ap (λ n. n + length more) size ∙ sym (length-append own more) in
    subst P (sym change.is) (record {
      counted = kept count flat parts number part.0 change.new counted part.1 change.start sizes;
      shown = made ∙ sym shown;
    })

-- none yet, and one more
pub filled_none : {Y : Type 0} (xs : List Y) (from : ℕ) (value : Y) → xs ≡ filled xs from 0 value
filled_none xs from value = sym (ap (λ n. take from xs ++ drop n xs) (omega arith) ∙ take-append-drop from xs)

repeated_more : {Y : Type 0} (n : ℕ) (value : Y) → repeated (suc n) (value ∷ []) ≡ repeated n (value ∷ []) ++ value ∷ []
repeated_more zero value = refl
repeated_more (suc n) value = ap (λ r. value ∷ r) (repeated_more n value)

length-one : {Y : Type 0} (n : ℕ) (value : Y) → length (repeated n (value ∷ [])) ≡ n
length-one zero value = refl
length-one (suc n) value = ap suc (length-one n value)

pub filled_more : {Y : Type 0} (xs : List Y) (from i : ℕ) (value : Y) → from + i < length xs
    → set (filled xs from i value) (from + i) value ≡ filled xs from (i + 1) value
filled_more xs from i value h =
    let a = take from xs in
    let b = repeated i (value ∷ []) in
    let c = drop (from + i + 1) xs in
    let size : length (a ++ b) ≡ from + i = omega (arith, length-append a b, length-take-le from xs (omega arith), length-one i value) in
    let next : i + 1 ≡ suc i = omega arith in
    let place : from + (i + 1) ≡ from + i + 1 = omega arith in
    ap (λ r. set (a ++ (b ++ r)) (from + i) value) (drop_more xs (from + i) value h)
    ∙ ap (λ r. set r (from + i) value) (sym (joined_end a b (get_or xs (from + i) value ∷ c)))
    ∙ ap (λ n. set ((a ++ b) ++ get_or xs (from + i) value ∷ c) n value) (sym size)
    ∙ set-append_seam (a ++ b) (get_or xs (from + i) value) c value
    ∙ joined_end a b (value ∷ c)
    ∙ ap (λ r. a ++ r) (sym (joined_end b (value ∷ []) c) ∙ ap (λ r. r ++ c) (sym (repeated_more i value)))
    ∙ ap (λ n. a ++ (repeated n (value ∷ []) ++ c)) (sym next)
    ∙ ap (λ n. a ++ (repeated (i + 1) (value ∷ []) ++ drop n xs)) (sym place)

pub length-filled : {Y : Type 0} (xs : List Y) (from count : ℕ) (value : Y) → from + count ≤ length xs → length (filled xs from count value) ≡ length xs
length-filled xs from count value h =
    omega (
      arith,
      length-append (take from xs) (repeated count (value ∷ []) ++ drop (from + count) xs),
      length-append (repeated count (value ∷ [])) (drop (from + count) xs),
      length-one count value,
      length-take-le from xs (omega arith),
      length-drop (from + count) xs,
    )

pub whole_counted : {X : Type 0} (result : Bool) (count : ℕ) (flat : List X) (parts then : List (Part X)) (items : List X) → AreCounted count flat parts
    → (result ≡ true → Done count flat then items) → (result ≡ false → then ≡ parts) → AreCounted count flat then
whole_counted true count flat parts then items counted done same = (done refl).counted
whole_counted false count flat parts then items counted done same = subst (λ ps. AreCounted count flat ps) (sym (same refl)) counted

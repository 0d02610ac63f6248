-- Items written over others, one after another, and runs of plain items.
use Rattle.std.proofs.Common.{◌≡◌, ℕ, zero, suc, ◌+◌, ◌<◌, ◌≤◌, List, [], ◌∷◌, ◌++◌, length, get_or, set, take, drop, refl, sym, ap, ◌∙◌, arith, length-append, length-drop, length-set, get_or-set_other}
use Rattle.std.proofs.lemmas.List.{set_comm, take_more, drop_more, get_or-drop, get_or-take, length-take-le}
use Rattle.std.proofs.lemmas.List.{take-append-le, set-append_left}
use Rattle.std.specs.List.{flat_map}
use Rattle.cr_sequence.specs.declared.sequence.Part.{Part}
use Rattle.cr_sequence.specs.Stretches.{items_in, all_items, AreCounted, Done}
use Rattle.cr_sequence.specs.Written.{overwritten}

pub length-overwritten : {X : Type 0} (xs : List X) (place : ℕ) (vs : List X) → length (overwritten xs place vs) ≡ length xs
length-overwritten xs place [] = refl
length-overwritten xs place (v ∷ vs) = length-overwritten (set xs place v) (suc place) vs ∙ length-set xs place v

-- one more at the end
pub overwritten-append : {X : Type 0} (xs : List X) (place : ℕ) (vs : List X) (v : X)
    → overwritten xs place (vs ++ v ∷ []) ≡ set (overwritten xs place vs) (place + length vs) v
overwritten-append xs place [] v = ap (λ n. set xs n v) (omega arith)
overwritten-append xs place (w ∷ vs) v =
    overwritten-append (set xs place w) (suc place) vs v ∙ ap (λ n. set (overwritten (set xs place w) (suc place) vs) n v) (omega arith)

pub get_or-overwritten_below : {X : Type 0} (xs : List X) (place : ℕ) (vs : List X) (j : ℕ) (d : X) → j < place
    → get_or (overwritten xs place vs) j d ≡ get_or xs j d
get_or-overwritten_below xs place [] j d h = refl
get_or-overwritten_below xs place (v ∷ vs) j d h =
    get_or-overwritten_below (set xs place v) (suc place) vs j d (omega arith) ∙ get_or-set_other xs place j v d (omega arith)

pub get_or-overwritten_above : {X : Type 0} (xs : List X) (place : ℕ) (vs : List X) (j : ℕ) (d : X) → place + length vs ≤ j
    → get_or (overwritten xs place vs) j d ≡ get_or xs j d
get_or-overwritten_above xs place [] j d h = refl
get_or-overwritten_above xs place (v ∷ vs) j d h =
    get_or-overwritten_above (set xs place v) (suc place) vs j d (omega arith) ∙ get_or-set_other xs place j v d (omega arith)

-- one more in front
pub set-overwritten : {X : Type 0} (xs : List X) (place at : ℕ) (vs : List X) (v : X) → at < place
    → set (overwritten xs place vs) at v ≡ overwritten (set xs at v) place vs
set-overwritten xs place at [] v h = refl
set-overwritten xs place at (w ∷ vs) v h =
    set-overwritten (set xs place w) (suc place) at vs v (omega arith)
    ∙ ap (λ ys. overwritten ys (suc place) vs) (set_comm xs place at w v (omega arith))

-- a step of a write of given values
pub written_over : {X : Type 0} (xs : List X) (target : ℕ) (vs : List X) (i : ℕ) (d : X) → i < length vs
    → set (overwritten xs target (take i vs)) (target + i) (get_or vs i d) ≡ overwritten xs target (take (i + 1) vs)
written_over xs target vs i d room =
    let size : length (take i vs) ≡ i = length-take-le i vs (omega arith) in
    sym (ap (λ ws. overwritten xs target ws) (take_more vs i d room)
    ∙ overwritten-append xs target (take i vs) (get_or vs i d) ∙ ap (λ n. set (overwritten xs target (take i vs)) (target + n) (get_or vs i d)) size)

pub written_at : {X : Type 0} (xs : List X) (target : ℕ) (vs : List X) (i : ℕ) (x : X) → i < length vs → x ≡ get_or vs i x
    → set (overwritten xs target (take i vs)) (target + i) x ≡ overwritten xs target (take (i + 1) vs)
written_at xs target vs i x room e = ap (λ v. set (overwritten xs target (take i vs)) (target + i) v) e ∙ written_over xs target vs i x room

-- a step of a copy to an earlier place
pub copied_down : {X : Type 0} (xs : List X) (source target i : ℕ) (x : X) → target ≤ source → source + i < length xs
    → x ≡ get_or (overwritten xs target (take i (drop source xs))) (source + i) x
    → set (overwritten xs target (take i (drop source xs))) (target + i) x ≡ overwritten xs target (take (i + 1) (drop source xs))
copied_down xs source target i x down within read =
    let room : i < length (drop source xs) = omega (arith, length-drop source xs) in
    let size : length (take i (drop source xs)) ≡ i = length-take-le i (drop source xs) (omega arith) in
    let same = get_or-overwritten_above xs target (take i (drop source xs)) (source + i) x (omega arith) in
    let value : x ≡ get_or (drop source xs) i x = read ∙ same ∙ sym (get_or-drop source xs i x) in
    sym (ap (λ vs. overwritten xs target vs) (take_more (drop source xs) i x room ∙ ap (λ y. take i (drop source xs) ++ y ∷ []) (sym value))
    ∙ overwritten-append xs target (take i (drop source xs)) x ∙ ap (λ n. set (overwritten xs target (take i (drop source xs))) (target + n) x) size)

-- a step of a copy to a later place
pub copied_up : {X : Type 0} (xs run : List X) (source target i : ℕ) (x : X) → source < target → i < length run → ((d : X) → get_or run i d ≡ get_or xs (source + i) d)
    → x ≡ get_or (overwritten xs (target + (i + 1)) (drop (i + 1) run)) (source + i) x
    → set (overwritten xs (target + (i + 1)) (drop (i + 1) run)) (target + i) x ≡ overwritten xs (target + i) (drop i run)
copied_up xs run source target i x up room same read =
    let value : x ≡ get_or run i x = read ∙ get_or-overwritten_below xs (target + (i + 1)) (drop (i + 1) run) (source + i) x (omega arith) ∙ sym (same x) in
    let next : target + (i + 1) ≡ suc (target + i) = omega arith in
    set-overwritten xs (target + (i + 1)) (target + i) (drop (i + 1) run) x (omega arith)
    ∙ ap (λ n. overwritten (set xs (target + i) x) n (drop (i + 1) run)) next
    ∙ sym (ap (λ vs. overwritten xs (target + i) vs) (drop_more run i x room ∙ ap (λ y. y ∷ drop (i + 1) run) (sym value)))

-- the same where the loop counts from the next index
pub copied_up_to : {X : Type 0} (xs : List X) (source target count i next : ℕ) (x : X) → next ≡ i + 1 → source < target
    → i < count → source + count ≤ length xs
    → x ≡ get_or (overwritten xs (target + next) (drop next (take count (drop source xs)))) (source + i) x
    → set (overwritten xs (target + next) (drop next (take count (drop source xs)))) (target + i) x
    ≡ overwritten xs (target + i) (drop i (take count (drop source xs)))
copied_up_to xs source target count i next x e up below within read =
    let size : length (take count (drop source xs)) ≡ count = length-take-le count (drop source xs) (omega (arith, length-drop source xs)) in
    rw e (copied_up xs (take count (drop source xs)) source target i x up (omega arith)
    (λ d. get_or-take count (drop source xs) i d below ∙ get_or-drop source xs i d) (rw e at read))

-- ---- among the plain items, which stand first

pub run_left : {X : Type 0} (xs ys : List X) (from count : ℕ) → from + count ≤ length xs → take count (drop from xs) ≡ take count (drop from (xs ++ ys))
run_left xs ys zero count h = sym (take-append-le count xs ys (omega arith))
run_left [] ys (suc n) count h = absurd (omega arith)
run_left (x ∷ xs) ys (suc n) count h = run_left xs ys n count (omega arith)

pub overwritten-append_left : {X : Type 0} (xs ys : List X) (place : ℕ) (vs : List X) → place + length vs ≤ length xs
    → overwritten (xs ++ ys) place vs ≡ overwritten xs place vs ++ ys
overwritten-append_left xs ys place [] h = refl
overwritten-append_left xs ys place (v ∷ vs) h =
    ap (λ zs. overwritten zs (suc place) vs) (set-append_left xs ys place v (omega arith))
    ∙ overwritten-append_left (set xs place v) ys (suc place) vs (omega (arith, length-set xs place v))

-- as many plain items as before
flat_changed : {X : Type 0} (count : ℕ) (flat then : List X) (parts : List (Part X)) (items : List X) → AreCounted count flat parts → length then ≡ length flat
    → all_items then parts ≡ items → Done count then parts items
flat_changed count flat then parts items counted size e = record {
  counted = record {
    counted = let c = counted.counted in omega (arith, size, length-append flat (flat_map items_in parts), length-append then (flat_map items_in parts));
    few = counted.few;
    starts = λ number part is. let s = counted.starts number part is in omega (arith, size);
  };
  shown = e;
}

pub flat_overwritten : {X : Type 0} (count : ℕ) (flat : List X) (parts : List (Part X)) (place : ℕ) (vs : List X) → AreCounted count flat parts
    → place + length vs ≤ length flat → Done count (overwritten flat place vs) parts (overwritten (all_items flat parts) place vs)
flat_overwritten count flat parts place vs counted h =
    flat_changed count flat (overwritten flat place vs) parts (overwritten (all_items flat parts) place vs) counted (length-overwritten flat place vs)
    (sym (overwritten-append_left flat (flat_map items_in parts) place vs h))

pub flat_copied : {X : Type 0} (count : ℕ) (flat : List X) (parts : List (Part X)) (from to size : ℕ) → AreCounted count flat parts
    → from + size ≤ length flat → to + size ≤ length flat
    → Done count (overwritten flat to (take size (drop from flat))) parts (overwritten (all_items flat parts) to (take size (drop from (all_items flat parts))))
flat_copied count flat parts from to size counted h k =
    let run = take size (drop from flat) in
    let n : length run ≡ size = length-take-le size (drop from flat) (omega (arith, length-drop from flat)) in
    let done = flat_overwritten count flat parts to run counted (omega arith) in
    record { counted = done.counted; shown = done.shown ∙ ap (λ vs. overwritten (all_items flat parts) to vs) (run_left flat (flat_map items_in parts) from size h) }

-- Items that come over and over, items that begin with others, and walks over a run.
use Rattle.std.proofs.Common.{◌≡◌, ℕ, zero, suc, ◌+◌, ◌-◌, ◌<◌, ◌≤◌, Bool, true, false, ◌||◌, Result, Ok, Err, List, [], ◌∷◌, ◌++◌, map, replicate, length, get_or, take, drop, refl, sym, ap, ◌∙◌, arith, length-append, length-drop}
use Rattle.std.specs.Prelude.{OnOk, OnErr}
use Rattle.std.specs.List.{list_any}
use Rattle.std.proofs.Math.Seq.{take-append_seam}
use Rattle.std.proofs.lemmas.List.{map-append, take-take, take_all, drop_more, get_or-drop, get_or-take, length-take-le}
use Rattle.std.proofs.lemmas.List.Folds.{list_any_at, list_any_more}
use Rattle.cr_sequence.specs.Kept.{repeated}
use Rattle.cr_memory.specs.Flat.{BeginsWith}

pub joined : {X : Type 0} (a b c : List X) → (a ++ b) ++ c ≡ a ++ (b ++ c)
joined [] b c = refl
joined (x ∷ a) b c = ap (λ r. x ∷ r) (joined a b c)

pub map-repeated : {X Y : Type 0} (f : X → Y) (n : ℕ) (xs : List X) → map f (repeated n xs) ≡ repeated n (map f xs)
map-repeated f zero xs = refl
map-repeated f (suc n) xs = map-append f xs (repeated n xs) ∙ ap (λ r. map f xs ++ r) (map-repeated f n xs)

-- ---- items that begin with others

pub begins_more : {X : Type 0} (items more all : List X) → all ≡ items ++ more → BeginsWith items all
begins_more items more all e = ap (take (length items)) e ∙ take-append_seam items more

pub begins_same : {X : Type 0} (items : List X) → BeginsWith items items
begins_same items = take_all (length items) items (omega arith)

-- after a call that puts items behind others, or leaves them
pub begins_either : {X : Type 0} {E : Type 0} (items more all : List X) (result : Result (Unit {0}) E) → OnOk result (all ≡ items ++ more) → OnErr result (all ≡ items)
    → BeginsWith items all
begins_either items more all (Ok u) done same = begins_more items more all done
begins_either items more all (Err e) done same = rw same (begins_same items)

pub begins_onward : {X : Type 0} (items more all : List X) → BeginsWith items more → BeginsWith more all → length items ≤ length more → BeginsWith items all
begins_onward items more all first second h =
    sym (take-take (length items) (length more) all h) ∙ ap (take (length items)) second ∙ first

pub begins_after : {X : Type 0} (items more all then : List X) → more ≡ items ++ then → BeginsWith more all → BeginsWith items all
begins_after items more all then e second =
    begins_onward items more all (begins_more items then more e) second (omega (arith, ap length e, length-append items then))

-- ---- walks over a run

-- a run from a place on is its first item and the rest
pub run_more : {X : Type 0} (xs : List X) (from count i : ℕ) (d : X) → i < count → from + count ≤ length xs
    → take (count - i) (drop (from + i) xs) ≡ get_or xs (from + i) d ∷ take (count - (i + 1)) (drop (from + (i + 1)) xs)
run_more xs from count i d h w =
    let m : count - i ≡ suc (count - (i + 1)) = omega arith in
    let n : from + i + 1 ≡ from + (i + 1) = omega arith in
    ap (λ k. take k (drop (from + i) xs)) m
    ∙ ap (take (suc (count - (i + 1)))) (drop_more xs (from + i) d (omega arith))
    ∙ ap (λ k. get_or xs (from + i) d ∷ take (count - (i + 1)) (drop k xs)) n

neither : (a b : Bool) → a ≡ false → b ≡ false → (a || b) ≡ false
neither true b e f = absurd (cc e)
neither false b e f = f

pub none_more : {X : Type 0} (p : X → Bool) (xs : List X) (from i : ℕ) (d : X) → from + i < length xs → list_any p (take i (drop from xs)) ≡ false
    → p (get_or xs (from + i) d) ≡ false → list_any p (take (i + 1) (drop from xs)) ≡ false
none_more p xs from i d h e f =
    list_any_more p (drop from xs) i d (omega (arith, length-drop from xs))
    ∙ neither _ _ e (ap p (get_or-drop from xs i d) ∙ f)

pub found : {X : Type 0} (p : X → Bool) (xs : List X) (from count i : ℕ) (d : X) → i < count → from + count ≤ length xs
    → p (get_or xs (from + i) d) ≡ true → list_any p (take count (drop from xs)) ≡ true
found p xs from count i d h w e =
    list_any_at p (take count (drop from xs)) i d (omega (arith, length-take-le count (drop from xs), length-drop from xs))
    (ap p (get_or-take count (drop from xs) i d h ∙ get_or-drop from xs i d) ∙ e)

pub replicated : {X : Type 0} (n : ℕ) (value : X) → repeated n (value ∷ []) ≡ replicate n value
replicated zero value = refl
replicated (suc n) value = ap (λ r. value ∷ r) (replicated n value)

pub length-one : {X : Type 0} (n : ℕ) (value : X) → length (repeated n (value ∷ [])) ≡ n
length-one zero value = refl
length-one (suc n) value = ap suc (length-one n value)

pub some_repeated : {X : Type 0} (n : ℕ) (xs : List X) → 0 < length (repeated n xs) → 0 < length xs
some_repeated zero xs h = absurd (omega arith)
some_repeated (suc n) [] h = some_repeated n [] h
some_repeated (suc n) (x ∷ xs) h = omega arith

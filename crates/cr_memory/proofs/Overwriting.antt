-- Items written over others, one after another.
use Rattle.std.proofs.Common.{◌≡◌, ℕ, suc, ◌+◌, ◌<◌, ◌≤◌, List, [], ◌∷◌, ◌++◌, length, get_or, set, take, drop, refl, sym, ap, ◌∙◌, arith, length-set, get_or-set_other, get_or-set_same}
use Rattle.std.proofs.lemmas.List.{take_more, take-append-drop, take-set-le, drop-set-lt}
use Rattle.cr_sequence.specs.Kept.{repeated}
use Rattle.cr_sequence.specs.Stretches.{filled}
use Rattle.cr_sequence.specs.Written as written
use Rattle.cr_memory.specs.Access.{overwritten}
use Rattle.cr_memory.proofs.Repeating.{joined, length-one}

-- the sequence's word for it
pub same_overwritten : {X : Type 0} (xs : List X) (place : ℕ) (vs : List X) → written.overwritten xs place vs ≡ overwritten xs place vs
same_overwritten xs place [] = refl
same_overwritten xs place (v ∷ vs) = same_overwritten (set xs place v) (suc place) vs

pub length-overwritten : {X : Type 0} (xs : List X) (place : ℕ) (vs : List X) → length (overwritten xs place vs) ≡ length xs
length-overwritten xs place [] = refl
length-overwritten xs place (v ∷ vs) = length-overwritten (set xs place v) (suc place) vs ∙ length-set xs place v

pub get_or-overwritten_below : {X : Type 0} (xs : List X) (place : ℕ) (vs : List X) (j : ℕ) (d : X) → j < place
    → get_or (overwritten xs place vs) j d ≡ get_or xs j d
get_or-overwritten_below xs place [] j d h = refl
get_or-overwritten_below xs place (v ∷ vs) j d h =
    get_or-overwritten_below (set xs place v) (suc place) vs j d (omega arith) ∙ get_or-set_other xs place j v d (omega arith)

pub get_or-overwritten_above : {X : Type 0} (xs : List X) (place : ℕ) (vs : List X) (j : ℕ) (d : X) → place + length vs ≤ j
    → get_or (overwritten xs place vs) j d ≡ get_or xs j d
get_or-overwritten_above xs place [] j d h = refl
get_or-overwritten_above xs place (v ∷ vs) j d h =
    get_or-overwritten_above (set xs place v) (suc place) vs j d (omega arith) ∙ get_or-set_other xs place j v d (omega arith)

-- what is written, between what stands before and behind it
pub overwritten-parts : {X : Type 0} (xs : List X) (place : ℕ) (vs : List X) → place + length vs ≤ length xs
    → overwritten xs place vs ≡ take place xs ++ (vs ++ drop (place + length vs) xs)
overwritten-parts xs place [] h = let e : place ≡ place + 0 = omega arith in sym (take-append-drop place xs) ∙ ap (λ n. take place xs ++ drop n xs) e
overwritten-parts xs place (v ∷ vs) h =
    let within : place < length xs = omega arith in
    let one : suc place ≡ place + 1 = omega arith in
    let rest : suc place + length vs ≡ place + suc (length vs) = omega arith in
    let front : take (suc place) (set xs place v) ≡ take place xs ++ v ∷ [] =
    ap (λ n. take n (set xs place v)) one ∙ take_more (set xs place v) place v (omega (arith, length-set xs place v))
    ∙ ap (λ ys. ys ++ get_or (set xs place v) place v ∷ []) (take-set-le place xs place v (omega arith))
    ∙ ap (λ y. take place xs ++ y ∷ []) (get_or-set_same xs place v v within) in
    let back : drop (suc place + length vs) (set xs place v) ≡ drop (place + suc (length vs)) xs =
    drop-set-lt (suc place + length vs) xs place v (omega arith) ∙ ap (λ n. drop n xs) rest in
    overwritten-parts (set xs place v) (suc place) vs (omega (arith, length-set xs place v))
    ∙ ap (λ ys. ys ++ (vs ++ drop (suc place + length vs) (set xs place v))) front
    ∙ ap (λ ys. (take place xs ++ v ∷ []) ++ (vs ++ ys)) back
    ∙ joined (take place xs) (v ∷ []) (vs ++ drop (place + suc (length vs)) xs)

pub filled-overwritten : {X : Type 0} (xs : List X) (from count : ℕ) (v : X) → from + count ≤ length xs
    → filled xs from count v ≡ overwritten xs from (repeated count (v ∷ []))
filled-overwritten xs from count v h =
    let size : length (repeated count (v ∷ [])) ≡ count = length-one count v in
    ap (λ n. take from xs ++ (repeated count (v ∷ []) ++ drop (from + n) xs)) (sym size)
    ∙ sym (overwritten-parts xs from (repeated count (v ∷ [])) (omega arith))

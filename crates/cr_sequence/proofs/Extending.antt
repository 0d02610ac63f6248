-- More plain items at once.
use Rattle.std.proofs.Common.{◌≡◌, ℕ, zero, suc, ◌+◌, ◌-◌, ◌≤◌, Bool, true, false, if◌then◌else◌, List, [], ◌∷◌, ◌++◌, replicate, length, take, refl, sym, ap, subst, ◌∙◌, arith, length-append}
use Rattle.std.proofs.lemmas.List.{take_all}
use Rattle.cr_sequence.specs.declared.sequence.Part.{Part}
use Rattle.cr_sequence.specs.Kept.{repeated}
use Rattle.cr_sequence.specs.Stretches.{all_items, AreCounted, Done}
use Rattle.cr_sequence.proofs.Parts.{flat_alone}

flat_more : {X : Type 0} (count more : ℕ) (flat : List X) (parts : List (Part X)) (items : List X) → AreCounted count flat parts → length parts ≡ 0
    → more ≡ length items → count + more ≤ 2199023255552 → Done (count + more) (flat ++ items) parts (all_items flat parts ++ items)
flat_more count more flat (x ∷ xs) items counted none size few = absurd (omega arith)
flat_more count more flat [] items counted none size few =
    let c = counted.counted in
    let n : length (flat ++ []) ≡ length flat + 0 = length-append flat [] in
    let m : length (flat ++ items) ≡ length flat + length items = length-append flat items in
    let made = flat_alone (count + more) (flat ++ items) (omega arith) few in
    record { counted = made.counted; shown = made.shown ∙ ap (λ r. r ++ items) (sym (flat_alone count flat (omega arith) counted.few).shown) }

pub flat_extended : {X : Type 0} (count more : ℕ) (flat new : List X) (parts : List (Part X)) (items : List X) → AreCounted count flat parts → length parts ≡ 0
    → more ≡ length items → count + more ≤ 2199023255552 → new ≡ flat ++ items → Done (count + more) new parts (all_items flat parts ++ items)
flat_extended {X = X} count more flat new parts items counted none size few e =
    let P : List X → Type 0 = λ xs. Done (count + more) xs parts (all_items flat parts ++ items) in
    subst P (sym e) (flat_more count more flat parts items counted none size few)

pub so_many : {X : Type 0} (n : ℕ) (item : X) → n ≡ length (repeated n (item ∷ []))
so_many zero item = refl
so_many (suc n) item = ap suc (so_many n item)

alike : {X : Type 0} (n : ℕ) (item : X) → replicate n item ≡ repeated n (item ∷ [])
alike zero item = refl
alike (suc n) item = ap (λ r. item ∷ r) (alike n item)

-- a list that was filled up to so many items
pub filled_up : {X : Type 0} (was now : List X) (done : Bool) (all count size : ℕ) (item : X)
    → now ≡ (if done then take all was ++ replicate (all - size) item else was) → done ≡ true → size ≡ length was → all ≡ size + count → now ≡ was ++ repeated count (item ∷ [])
filled_up was now true all count size item e is own more =
    let rest : all - size ≡ count = omega arith in
    e ∙ ap (λ xs. xs ++ replicate (all - size) item) (take_all all was (omega arith)) ∙ ap (λ n. was ++ replicate n item) rest
    ∙ ap (λ xs. was ++ xs) (alike count item)
filled_up was now false all count size item e is own more = absurd (cc is)

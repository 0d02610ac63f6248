-- How many edits a level has.
use Rattle.std.proofs.Common.{◌≡◌, ℕ, zero, suc, ◌+◌, ◌≤◌, Bool, true, false, List, [], ◌∷◌, length, if◌then◌else◌, lit≤, refl, ap, ◌∙◌, arith, length-append}
use Rattle.std.specs.declared.cmp.Ordering.{Ordering}
use Rattle.std.specs.Ordering.{is_gt}
use Rattle.std.proofs.lemmas.List.{length-map}
use Rattle.pass_levels.specs.declared.counted.Counted.{Counted}
use Rattle.pass_levels.specs.Gathered.{gathered}
use Rattle.pass_levels.specs.Level.{counted_at, in_place_order, level_of, place_cmp, place_of}
use Rattle.pass_levels.specs.Order.{in_order, placed}

-- what the numbers below one count, together
abbrev pub total : (ℕ → ℕ) → ℕ → ℕ
total w zero = 0
total w (suc n) = total w n + w n

pub total_next : (w : ℕ → ℕ) (n : ℕ) → total w (n + 1) ≡ total w n + w n
total_next w n = let e : n + 1 ≡ suc n = omega arith in ap (total w) e

pub total_ones : (n : ℕ) → total (λ k. 1) n ≡ n
total_ones zero = refl
total_ones (suc n) = let e = total_ones n in omega (arith, e)

pub gathered_counts : {X : Type 0} (gives : ℕ → List X) (n : ℕ) → length (gathered gives n) ≡ total (λ k. length (gives k)) n
gathered_counts gives zero = refl
gathered_counts gives (suc n) = length-append (gathered gives n) (gives n) ∙ ap (λ m. m + length (gives n)) (gathered_counts gives n)

placed_counts : {X : Type 0} (cmp : X → X → Ordering) (x : X) (ys : List X) → length (placed cmp x ys) ≡ suc (length ys)
placed_counts cmp x [] = refl
placed_counts cmp x (y ∷ ys) = by (is_gt (cmp x y)) (placed_counts cmp x ys)
  where
    by : (b : Bool) → length (placed cmp x ys) ≡ suc (length ys) → length (if b then y ∷ placed cmp x ys else x ∷ y ∷ ys) ≡ suc (suc (length ys))
    by true rest = ap suc rest
    by false rest = refl

ordered_counts : {X : Type 0} (cmp : X → X → Ordering) (xs : List X) → length (in_order cmp xs) ≡ length xs
ordered_counts cmp [] = refl
ordered_counts cmp (x ∷ xs) = placed_counts cmp x (in_order cmp xs) ∙ ap suc (ordered_counts cmp xs)

in_place : (all : List Counted) → length (in_place_order all) ≡ length all
in_place all =
    length-map (in_order place_cmp (gathered (λ at. place_of all at ∷ []) (length all))) (λ place. (counted_at all place.2).edit)
    ∙ ordered_counts place_cmp (gathered (λ at. place_of all at ∷ []) (length all))
    ∙ gathered_counts (λ at. place_of all at ∷ []) (length all) ∙ total_ones (length all)

-- a level has as many edits as its nodes give
pub level_counts : (gives : ℕ → List Counted) (n : ℕ) → length (level_of gives n) ≡ total (λ k. length (gives k)) n
level_counts gives n = in_place (gathered gives n) ∙ gathered_counts gives n

pub total_le : (v w : ℕ → ℕ) → ((k : ℕ) → v k ≤ w k) → (n : ℕ) → total v n ≤ total w n
total_le v w le zero = omega arith
total_le v w le (suc n) = let rest = total_le v w le n in let here = le n in omega (arith, rest, here)

-- where each number gives one at the most
pub gathered_few : {X : Type 0} (gives : ℕ → List X) → ((k : ℕ) → length (gives k) ≤ 1) → (n : ℕ) → length (gathered gives n) ≤ n
gathered_few gives few n =
    let e = gathered_counts gives n in let le = total_le (λ k. length (gives k)) (λ k. 1) few n in let ones = total_ones n in omega (arith, e, le, ones)

pub if_one : {X : Type 0} (b : Bool) (x : X) → length (if b then x ∷ [] else []) ≤ 1
if_one true x = lit≤ tt
if_one false x = lit≤ tt

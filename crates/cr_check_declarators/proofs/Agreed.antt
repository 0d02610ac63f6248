-- The parameters of two functions agree by their rows exactly where their types do.
use Rattle.std.proofs.Common.{◌≡◌, ◌<◌, ◌&&◌, ◌↔◌, ℕ, suc, Bool, true, false, IsTrue, List, [], ◌∷◌, length, map, slice_index, refl, sym, ap, arith, true≢false, zero}
use Rattle.cr_check_types.specs.declared.shape.Shape.{Shape}
use Rattle.cr_check_types.specs.Types.{type_at}
use Rattle.cr_check_types.specs.Relations.{are_compatible, bare, AgreeInParameters}
use Rattle.cr_check_declarators.specs.Functions.{parameters_agree}

and_true : (a b : Bool) → a ≡ true → b ≡ true → (a && b) ≡ true
and_true a b e f = rw (e, f) refl

left_true : (a b : Bool) → (a && b) ≡ true → a ≡ true
left_true true b e = refl
left_true false b e = e

right_true : (a b : Bool) → (a && b) ≡ true → b ≡ true
right_true true b e = e
right_true false b e = absurd (true≢false (sym e))

tail : (ss : List Shape) (x y : ℕ) (xs ys : List ℕ) → AgreeInParameters ss (x ∷ xs) (y ∷ ys) → AgreeInParameters ss xs ys
tail ss x y xs ys a = record { count = let c = a.count in omega arith; each = λ k h. a.each (suc k) (omega arith) }

none : {n : ℕ} → 0 ≡ suc n → ⊥
none e = omega arith

pub to : (ss : List Shape) (xs ys : List ℕ) → AgreeInParameters ss xs ys → parameters_agree (map (type_at ss) xs) (map (type_at ss) ys) ≡ true
to ss [] [] a = refl
to ss [] (y ∷ ys) a = absurd (none a.count)
to ss (x ∷ xs) [] a = absurd (none (sym a.count))
to ss (x ∷ xs) (y ∷ ys) a =
    and_true (are_compatible (bare (type_at ss x)) (bare (type_at ss y))) (parameters_agree (map (type_at ss) xs) (map (type_at ss) ys))
    (a.each 0 (omega arith)) (to ss xs ys (tail ss x y xs ys a))

below : (k : ℕ) → k < 0 → ⊥
below k h = omega arith

pub of : (ss : List Shape) (xs ys : List ℕ) → parameters_agree (map (type_at ss) xs) (map (type_at ss) ys) ≡ true → AgreeInParameters ss xs ys
of ss [] [] e = record { count = refl; each = λ k h. absurd (below k h) }
of ss [] (y ∷ ys) e = absurd (true≢false (sym e))
of ss (x ∷ xs) [] e = absurd (true≢false (sym e))
of ss (x ∷ xs) (y ∷ ys) e =
    let rest = of ss xs ys (right_true (are_compatible (bare (type_at ss x)) (bare (type_at ss y))) (parameters_agree (map (type_at ss) xs) (map (type_at ss) ys)) e) in
    record { count = ap suc rest.count; each = each rest }
  where
    each : AgreeInParameters ss xs ys → (k : ℕ) → k < length (x ∷ xs) → are_compatible (bare (type_at ss (slice_index (x ∷ xs) k))) (bare (type_at ss (slice_index (y ∷ ys) k))) ≡ true
    each rest zero h = left_true (are_compatible (bare (type_at ss x)) (bare (type_at ss y))) (parameters_agree (map (type_at ss) xs) (map (type_at ss) ys)) e
    each rest (suc k) h = rest.each k (omega arith)

pub agreed : (ss : List Shape) (xs ys : List ℕ) (so : Bool) → (IsTrue so ↔ AgreeInParameters ss xs ys) → so ≡ parameters_agree (map (type_at ss) xs) (map (type_at ss) ys)
agreed ss xs ys true h = sym (to ss xs ys (h.0 refl))
agreed ss xs ys false h = by (parameters_agree (map (type_at ss) xs) (map (type_at ss) ys)) refl
  where
    by : (b : Bool) → parameters_agree (map (type_at ss) xs) (map (type_at ss) ys) ≡ b → false ≡ b
    by false e = refl
    by true e = absurd (true≢false (sym (h.1 (of ss xs ys e))))

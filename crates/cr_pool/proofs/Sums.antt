-- Lists by their places, and sums over them.
use Rattle.std.proofs.Common.{◌≡◌, ◌⊎◌, inl, inr, ℕ, ◌+◌, ◌<◌, ◌≤◌, List, [], ◌∷◌, length, map, set, slice_index_or, take, refl, ap, arith}
use Prim.Native.Nat.{zero, suc}
use Rattle.std.proofs.lemmas.List.{map_more}
use Rattle.cr_core.specs.Row.{Row}
use Rattle.cr_core.specs.Sound.{total}
use Rattle.cr_claims.proofs.Views.{total-append}

one_up : (n m : ℕ) → ((n ≤ m) ⊎ (m < n)) → (suc n ≤ suc m) ⊎ (suc m < suc n)
one_up n m (inl low) = inl (omega arith)
one_up n m (inr high) = inr (omega arith)

-- one number is at most another, or above it
pub low_or_high : (n m : ℕ) → (n ≤ m) ⊎ (m < n)
low_or_high zero m = inl (omega arith)
low_or_high (suc n) zero = inr (omega arith)
low_or_high (suc n) (suc m) = one_up n m (low_or_high n m)

module _ {A : Type 0} where
  -- what stands behind the end doesn't matter below it
  pub index_any : (xs : List A) (i : ℕ) (c d : A) → i < length xs → slice_index_or xs i c ≡ slice_index_or xs i d
  index_any [] i c d h = absurd (omega arith)
  index_any (x ∷ xs) zero c d h = refl
  index_any (x ∷ xs) (suc i) c d h = index_any xs i c d (omega arith)

  -- what was written is there
  pub set_here : (xs : List A) (i : ℕ) (y d : A) → i < length xs → slice_index_or (set xs i y) i d ≡ y
  set_here [] i y d h = absurd (omega arith)
  set_here (x ∷ xs) zero y d h = refl
  set_here (x ∷ xs) (suc i) y d h = set_here xs i y d (omega arith)

  -- a write changes nothing above it
  pub set_above : (xs : List A) (i k : ℕ) (y d : A) → i < k → slice_index_or (set xs i y) k d ≡ slice_index_or xs k d
  set_above [] i k y d h = refl
  set_above (x ∷ xs) i zero y d h = absurd (omega arith)
  set_above (x ∷ xs) zero (suc k) y d h = refl
  set_above (x ∷ xs) (suc i) (suc k) y d h = set_above xs i k y d (omega arith)

  one_on : (x : A) (xs : List A) (i k : ℕ) (y d : A) → ((slice_index_or (set xs i y) k d ≡ slice_index_or xs k d) ⊎ ((k ≡ i) × (slice_index_or (set xs i y) k d ≡ y)))
      → (slice_index_or (set (x ∷ xs) (suc i) y) (suc k) d ≡ slice_index_or (x ∷ xs) (suc k) d) ⊎ ((suc k ≡ suc i) × (slice_index_or (set (x ∷ xs) (suc i) y) (suc k) d ≡ y))
  one_on x xs i k y d (inl same) = inl same
  one_on x xs i k y d (inr here) = inr (ap suc here.0, here.1)

  -- a write changes one place at most
  pub set_cases : (xs : List A) (i k : ℕ) (y d : A) → (slice_index_or (set xs i y) k d ≡ slice_index_or xs k d) ⊎ ((k ≡ i) × (slice_index_or (set xs i y) k d ≡ y))
  set_cases [] i k y d = inl refl
  set_cases (x ∷ xs) zero zero y d = inr (refl, refl)
  set_cases (x ∷ xs) zero (suc k) y d = inl refl
  set_cases (x ∷ xs) (suc i) zero y d = inl refl
  set_cases (x ∷ xs) (suc i) (suc k) y d = one_on x xs i k y d (set_cases xs i k y d)

  -- what relates two lists at each place relates them still after a write that it relates
  pub set_each : (R : A → A → Type 0) (xs ys : List A) (i : ℕ) (y d : A) → length ys ≡ length xs → ((k : ℕ) → k < length xs → R (slice_index_or xs k d) (slice_index_or ys k d))
      → R (slice_index_or xs i d) y → (k : ℕ) → k < length xs → R (slice_index_or xs k d) (slice_index_or (set ys i y) k d)
  set_each R [] ys i y d same each at k h = absurd (omega arith)
  set_each R (x ∷ xs) [] i y d same each at k h = absurd (omega arith)
  set_each R (x ∷ xs) (z ∷ ys) zero y d same each at zero h = at
  set_each R (x ∷ xs) (z ∷ ys) zero y d same each at (suc k) h = each (suc k) h
  set_each R (x ∷ xs) (z ∷ ys) (suc i) y d same each at zero h = each zero (omega arith)
  set_each R (x ∷ xs) (z ∷ ys) (suc i) y d same each at (suc k) h =
      set_each R xs ys i y d (omega arith) (λ j below. each (suc j) (omega arith)) at k (omega arith)

-- one element more in a sum
pub total-take : {A : Type 0} (f : Row → ℕ) (g : A → Row) (xs : List A) (i : ℕ) (d : A) → i < length xs
    → total f (map g (take (i + 1) xs)) ≡ total f (map g (take i xs)) + f (g (slice_index_or xs i d))
total-take f g xs i d h =
    let more = ap (λ (rows : List Row). total f rows) (map_more g xs i d h) in
    omega (arith, more, total-append f (map g (take i xs)) (g (slice_index_or xs i d) ∷ []))

-- Sums over all views, where one view changes.
use Rattle.std.proofs.Common.{◌≡◌, ℕ, ◌+◌, ◌≤◌, true, false, List, [], ◌∷◌, ◌++◌, set, refl, sym, ap, arith}
use Prim.Native.Nat.{zero, suc}
use mathlib.Core.Option.{some, some-injective, some-ne-none}
use lib.ListN.{get_elem?}
use Rattle.cr_core.specs.Sound.{total}
use Rattle.cr_claims.specs.declared.view.View.{View}
use Rattle.cr_claims.specs.Rule.{live}

module _ {A : Type 0} where
  pub total-set : (g : A → ℕ) (ls : List A) (i : ℕ) (a m : A) → get_elem? ls i ≡ some a → total g (set ls i m) + g a ≡ total g ls + g m
  total-set g [] i a m h = absurd (some-ne-none a (sym h))
  total-set g (x ∷ xs) zero a m h = omega (arith, ap g (some-injective x a h))
  total-set g (x ∷ xs) (suc i) a m h = omega (arith, total-set g xs i a m h)

  pub total-at : (g : A → ℕ) (ls : List A) (i : ℕ) (a : A) → get_elem? ls i ≡ some a → g a ≤ total g ls
  total-at g [] i a h = absurd (some-ne-none a (sym h))
  total-at g (x ∷ xs) zero a h = omega (arith, ap g (some-injective x a h))
  total-at g (x ∷ xs) (suc i) a h = omega (arith, total-at g xs i a h)

  pub total-append : (g : A → ℕ) (a b : List A) → total g (a ++ b) ≡ total g a + total g b
  total-append g [] b = omega arith
  total-append g (x ∷ xs) b = omega (arith, total-append g xs b)

  -- where all of one count stands at one place, so does all of another that is 0 wherever that one is
  none_elsewhere : (k w : A → ℕ) (ls : List A) → ((i : ℕ) (u : A) → get_elem? ls i ≡ some u → k u ≡ 0 → w u ≡ 0) → total k ls ≡ 0 → total w ls ≡ 0
  none_elsewhere k w [] zeros h = refl
  none_elsewhere k w (x ∷ xs) zeros h =
      omega (arith, zeros zero x refl (omega arith), none_elsewhere k w xs (λ i u. zeros (suc i) u) (omega arith))

  pub only_there : (k w : A → ℕ) (ls : List A) (i : ℕ) (a : A) → get_elem? ls i ≡ some a → total k ls ≡ k a
      → ((j : ℕ) (u : A) → get_elem? ls j ≡ some u → k u ≡ 0 → w u ≡ 0) → total w ls ≡ w a
  only_there k w [] i a h all zeros = absurd (some-ne-none a (sym h))
  only_there k w (x ∷ xs) zero a h all zeros =
      let here = ap k (some-injective x a h) in
      omega (arith, ap w (some-injective x a h), none_elsewhere k w xs (λ j u. zeros (suc j) u) (omega arith))
  only_there k w (x ∷ xs) (suc i) a h all zeros =
      let there = total-at k xs i a h in
      omega (arith, zeros zero x refl (omega arith), only_there k w xs i a h (omega arith) (λ j u. zeros (suc j) u))

pub live-is : (w : View → ℕ) (v : View) → v.spent ≡ false → live w v ≡ w v
live-is w v h = grind arith

pub live-spent : (w : View → ℕ) (v : View) → v.spent ≡ true → live w v ≡ 0
live-spent w v h = grind arith

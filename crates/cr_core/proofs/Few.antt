-- At most as many positions below the length are claimed as there are.
use Rattle.std.proofs.Common.{◌≡◌, ℕ, ◌+◌, ◌-◌, ◌≤◌, List, [], ◌∷◌, refl, arith}
use Prim.Native.Nat.{zero, suc}
use Rattle.cr_core.specs.Row.{Row, apart, below, placed, under, early, past}
use Rattle.cr_core.specs.Sound.{Sum, total, IsSound}

-- the sum of f below n
upto : ℕ → (ℕ → ℕ) → ℕ
upto zero f = 0
upto (suc n) f = f n + upto n f

upto-none : (n : ℕ) → upto n (λ _. 0) ≡ 0
unfolding upto
upto-none zero = refl
upto-none (suc n) = omega (arith, upto-none n)

upto-add : (n : ℕ) (f g : ℕ → ℕ) → upto n (λ p. f p + g p) ≡ upto n f + upto n g
unfolding upto
upto-add zero f g = refl
upto-add (suc n) f g = omega (arith, upto-add n f g)

upto-one : (n x : ℕ) → upto n (λ p. 1 - apart p x) ≡ below x n
unfolding upto
upto-one zero x = omega arith
upto-one (suc n) x = omega (arith, upto-one n x)

upto-small : (n : ℕ) (f : ℕ → ℕ) → ((p : ℕ) → f p ≤ 1) → upto n f ≤ n
unfolding upto
upto-small zero f h = omega arith
upto-small (suc n) f h = omega (arith, h n, upto-small n f h)

-- the entries below the length, counted position by position
under-upto : (len : ℕ) (l : Row) → under len l ≡ upto len (λ p. placed p l)
under-upto len [] = omega (arith, upto-none len)
under-upto len (e ∷ es) =
    omega (arith, upto-add len (λ p. 1 - apart p e.position) (λ p. placed p es), upto-one len e.position, under-upto len es)

total-upto : (len : ℕ) (ls : List Row) → total (under len) ls ≡ upto len (λ p. total (placed p) ls)
total-upto len [] = omega (arith, upto-none len)
total-upto len (l ∷ ls) =
    omega (arith, upto-add len (λ p. placed p l) (λ p. total (placed p) ls), under-upto len l, total-upto len ls)

pub few_below : (len next : ℕ) (lists : List Row) → ((p : ℕ) → total (placed p) lists ≡ below p next) → total (under len) lists ≤ len
few_below len next lists each =
    omega (arith, total-upto len lists, upto-small len (λ p. total (placed p) lists) (λ p. omega (arith, each p)))

pub few : (len next least : ℕ) (lists : List Row) → IsSound len next least (λ f. total f lists) → total (under len) lists ≤ len
few len next least lists s = few_below len next lists s.each_claimed_number_stands_once

upto-all : (n m : ℕ) (f : ℕ → ℕ) → ((p : ℕ) → f p ≡ below p m) → n ≤ m → upto n f ≡ n
unfolding upto
upto-all zero m f h le = refl
upto-all (suc n) m f h le = omega (arith, h n, upto-all n m f h (omega arith))

-- beside the entries below the length a list has its last one at most
under-past : (len n : ℕ) (l : Row) → early len l ≡ 0 → under n l ≤ under len l + past len l
under-past len n [] h = omega arith
under-past len n (e ∷ []) h = omega arith
under-past len n (e ∷ f ∷ es) h = omega (arith, under-past len n (f ∷ es) (omega arith))

total-past : (len n : ℕ) (ls : List Row) → total (early len) ls ≡ 0 → total (under n) ls ≤ total (under len) ls + total (past len) ls
total-past len n [] h = omega arith
total-past len n (l ∷ ls) h = omega (arith, under-past len n l (omega arith), total-past len n ls (omega arith))

pub bound : (len next : ℕ) (lists : List Row) → ((p : ℕ) → total (placed p) lists ≡ below p next) → total (early len) lists ≡ 0
    → next ≤ len + total (past len) lists
bound len next lists each close =
    omega (
      arith,
      few_below len next lists each,
      total-past len next lists close,
      total-upto next lists,
      upto-all next next (λ p. total (placed p) lists) each (omega arith),
    )

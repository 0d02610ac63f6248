-- A short name has one number, which is read from it.
use native.Mathlib.Omega.{arith}
use Rattle.std.proofs.Common.{◌≡◌, ℕ, ◌+◌, ◌-◌, ◌*◌, ◌/◌, ◌%◌, ◌<◌, ◌≤◌, List, [], ◌∷◌, if◌then◌else◌, refl, sym, ap, subst, ◌∙◌, inl, inr, lt-ltb, le-ltb}
use Rattle.std.specs.Prelude.{nat_lt}
use Rattle.std.proofs.lemmas.Bool.{cases_lt}
use Rattle.std.proofs.Math.Nat.{div-add-mod}
use Rattle.pass_names.specs.Short.{four_letters, one_letter, short_name, three_letters, two_letters}

abbrev read : List ℕ → ℕ
read [] = 0
read (a ∷ []) = a - 97
read (a ∷ b ∷ []) = 26 + ((a - 97) * 26 + (b - 97))
read (a ∷ b ∷ c ∷ []) = 702 + ((a - 97) * 676 + ((b - 97) * 26 + (c - 97)))
read (a ∷ b ∷ c ∷ d ∷ rest) = 18278 + ((a - 97) * 17576 + ((b - 97) * 676 + ((c - 97) * 26 + (d - 97))))

read_one : (n : ℕ) → read (one_letter n) ≡ n
read_one n = omega arith

read_two : (n : ℕ) → read (two_letters n) ≡ 26 + n
read_two n = let whole = div-add-mod n 26 in omega (arith, whole)

read_three : (n : ℕ) → read (three_letters n) ≡ 702 + n
read_three n = let whole = div-add-mod n 676 in let rest = div-add-mod (n % 676) 26 in omega (arith, whole, rest)

read_four : (n : ℕ) → read (four_letters n) ≡ 18278 + n
read_four n = let whole = div-add-mod n 17576 in let rest = div-add-mod (n % 17576) 676 in let last = div-add-mod (n % 17576 % 676) 26 in omega (arith, whole, rest, last)

cond_true : (n m : ℕ) (x y : List ℕ) → n < m → (if nat_lt n m then x else y) ≡ x
cond_true n m x y low = ap {B = List ℕ} (λ b. if b then x else y) (lt-ltb n m low)

cond_false : (n m : ℕ) (x y : List ℕ) → m ≤ n → (if nat_lt n m then x else y) ≡ y
cond_false n m x y high = ap {B = List ℕ} (λ b. if b then x else y) (le-ltb n m high)

read_beyond : (n : ℕ) → 18278 ≤ n → read (four_letters (n - 18278)) ≡ n
read_beyond n high = let it = read_four (n - 18278) in omega (arith, it, high)

read_third : (n : ℕ) → 702 ≤ n → read (if nat_lt n 18278 then three_letters (n - 702) else four_letters (n - 18278)) ≡ n
read_third n high = elim (cases_lt n 18278) [
  | inl low ↦ ap read (cond_true n 18278 (three_letters (n - 702)) (four_letters (n - 18278)) low) ∙ (let it = read_three (n - 702) in omega (arith, it, high))
  | inr higher ↦ ap read (cond_false n 18278 (three_letters (n - 702)) (four_letters (n - 18278)) higher) ∙ read_beyond n higher
]

abbrev from_three : ℕ → List ℕ
from_three n = if nat_lt n 18278 then three_letters (n - 702) else four_letters (n - 18278)

read_second : (n : ℕ) → 26 ≤ n → read (if nat_lt n 702 then two_letters (n - 26) else from_three n) ≡ n
read_second n high = elim (cases_lt n 702) [
  | inl low ↦ ap read (cond_true n 702 (two_letters (n - 26)) (from_three n) low) ∙ (let it = read_two (n - 26) in omega (arith, it, high))
  | inr higher ↦ ap read (cond_false n 702 (two_letters (n - 26)) (from_three n) higher) ∙ read_third n higher
]

abbrev from_two : ℕ → List ℕ
from_two n = if nat_lt n 702 then two_letters (n - 26) else from_three n

pub read_back : (n : ℕ) → read (short_name n) ≡ n
read_back n = elim (cases_lt n 26) [
  | inl low ↦ ap read (cond_true n 26 (one_letter n) (from_two n) low) ∙ read_one n
  | inr high ↦ ap read (cond_false n 26 (one_letter n) (from_two n) high) ∙ read_second n high
]

pub own_names : (number other : ℕ) → number < 475254 → other < 475254 → short_name number ≡ short_name other → number ≡ other
own_names number other below and_below same = sym (read_back number) ∙ ap read same ∙ read_back other

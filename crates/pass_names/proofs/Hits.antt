-- Of different texts no more stand in a list than it has elements.
use native.Mathlib.Omega.{arith}
use Rattle.std.proofs.Common.{◌≡◌, ℕ, zero, suc, ◌+◌, ◌<◌, ◌≤◌, Bool, true, false, ◌||◌, List, [], ◌∷◌, if◌then◌else◌, length, refl, sym, ap, ◌∙◌, true≢false}
use Rattle.std.specs.List.{list_any}
use Rattle.std.specs.Str.{bytes_eq}
use Rattle.std.proofs.lemmas.Slice.Eq.{bytes_eq-Decides}

module _ (text : ℕ → List ℕ) where
  abbrev hit : List ℕ → ℕ → ℕ
  hit x i = if bytes_eq x (text i) then 1 else 0

  -- how many of the first n texts are x, and how many stand in a list, each as often as it does there
  abbrev hits : List ℕ → ℕ → ℕ
  hits x zero = 0
  hits x (suc n) = hit x n + hits x n

  abbrev all_hits : List (List ℕ) → ℕ → ℕ
  all_hits [] n = 0
  all_hits (x ∷ xs) n = hits x n + all_hits xs n

  abbrev AreOwn : ℕ → Type 0
  AreOwn n = (i j : ℕ) → i < n → j < n → text i ≡ text j → i ≡ j

  no_hit_by : (b : Bool) (m : ℕ) → b ≡ false → m ≡ 0 → (if b then 1 else 0) + m ≡ 0
  no_hit_by true m is none = absurd (true≢false is)
  no_hit_by false m is none = omega (arith, none)

  no_hits : (x : List ℕ) (n : ℕ) → ((i : ℕ) → i < n → bytes_eq x (text i) ≡ false) → hits x n ≡ 0
  no_hits x zero none = refl
  no_hits x (suc n) none = no_hit_by (bytes_eq x (text n)) (hits x n) (none n (omega arith)) (no_hits x n (λ i low. none i (omega (arith, low))))

  -- where the last one is x, no other is
  others : (x : List ℕ) (n i : ℕ) (b : Bool) → AreOwn (suc n) → x ≡ text n → i < n → bytes_eq x (text i) ≡ b → b ≡ false
  others x n i true own is low hit = let same = (bytes_eq-Decides x (text i)).0 hit in let e = own i n (omega (arith, low)) (omega arith) (sym same ∙ is) in absurd (omega (arith, low, e))
  others x n i false own is low hit = refl

  one_by : (x : List ℕ) (n : ℕ) (b : Bool) → AreOwn (suc n) → bytes_eq x (text n) ≡ b → hits x n ≤ 1 → (if b then 1 else 0) + hits x n ≤ 1
  one_by x n true own hit rest =
      let none = no_hits x n (λ i low. others x n i (bytes_eq x (text i)) own ((bytes_eq-Decides x (text n)).0 hit) low refl) in omega (arith, none)
  one_by x n false own hit rest = omega (arith, rest)

  one_hit : (x : List ℕ) (n : ℕ) → AreOwn n → hits x n ≤ 1
  one_hit x zero own = omega arith
  one_hit x (suc n) own = one_by x n (bytes_eq x (text n)) own refl (one_hit x n (λ i j low below. own i j (omega (arith, low)) (omega (arith, below))))

  few_hits : (xs : List (List ℕ)) (n : ℕ) → AreOwn n → all_hits xs n ≤ length xs
  few_hits [] n own = omega arith
  few_hits (x ∷ xs) n own = let one = one_hit x n own in let rest = few_hits xs n own in omega (arith, one, rest)

  more_hits : (xs : List (List ℕ)) (n : ℕ) → all_hits xs n ≤ all_hits xs (suc n)
  more_hits [] n = omega arith
  more_hits (x ∷ xs) n = let rest = more_hits xs n in omega (arith, rest)

  hit_by : (x : List ℕ) (xs : List (List ℕ)) (n : ℕ) (b : Bool) → (b || list_any (λ y. bytes_eq y (text n)) xs) ≡ true
      → all_hits xs n ≤ all_hits xs (suc n) → (list_any (λ y. bytes_eq y (text n)) xs ≡ true → all_hits xs n + 1 ≤ all_hits xs (suc n))
      → (hits x n + all_hits xs n) + 1 ≤ ((if b then 1 else 0) + hits x n) + all_hits xs (suc n)
  hit_by x xs n true is more rest = omega (arith, more)
  hit_by x xs n false is more rest = let it = rest is in omega (arith, it)

  a_hit : (xs : List (List ℕ)) (n : ℕ) → list_any (λ y. bytes_eq y (text n)) xs ≡ true → all_hits xs n + 1 ≤ all_hits xs (suc n)
  a_hit [] n is = absurd (true≢false (sym is))
  a_hit (x ∷ xs) n is = hit_by x xs n (bytes_eq x (text n)) is (more_hits xs n) (a_hit xs n)

  many_hits : (xs : List (List ℕ)) (n : ℕ) → ((i : ℕ) → i < n → list_any (λ y. bytes_eq y (text i)) xs ≡ true) → n ≤ all_hits xs n
  many_hits xs zero all = omega arith
  many_hits xs (suc n) all = let one = a_hit xs n (all n (omega arith)) in let rest = many_hits xs n (λ i low. all i (omega (arith, low))) in omega (arith, one, rest)

  pub all_stand_in : (xs : List (List ℕ)) (n : ℕ) → AreOwn n → ((i : ℕ) → i < n → list_any (λ y. bytes_eq y (text i)) xs ≡ true) → n ≤ length xs
  all_stand_in xs n own all = let many = many_hits xs n all in let few = few_hits xs n own in omega (arith, many, few)

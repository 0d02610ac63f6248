-- A sorted list is known by its elements, where only equal ones tie.
use native.Mathlib.Omega.{arith}
use Rattle.std.proofs.Common.{◌≡◌, ℕ, suc, ◌+◌, ◌<◌, Bool, true, false, List, [], ◌∷◌, if◌then◌else◌, refl, sym, ap, subst, ◌∙◌, true≢false}
use Rattle.std.specs.List.{slice_index_or, sum_by}
use Rattle.std.specs.List.Sorted.{IsPermutation, IsSorted}
use Rattle.std.proofs.lemmas.List.Sorted.{sum_by-IsPermutation}
use Rattle.std.proofs.lemmas.List.Sums.{sum_by-cons}
use Rattle.std.specs.declared.cmp.Ordering.{Ordering}
use Rattle.std.specs.declared.cmp.Ordering.TheVariants.{Less, Equal, Greater}
use Rattle.std.specs.Ordering.{is_eq, is_gt, is_lt, ordering_reverse}
use Rattle.std.specs.Cmp.{IsTotalOrder, upto, tied_itself}
use Rattle.pass_levels.specs.Order.{in_order, placed}

module _ {X : Type 0} (cmp : X → X → Ordering) (total : IsTotalOrder cmp) (ties : (x y : X) → cmp x y ≡ Equal → x ≡ y) where
  -- x is above none of them
  abbrev pub IsLeast : X → List X → Type 0
  IsLeast x [] = Unit {0}
  IsLeast x (y ∷ ys) = (is_gt (cmp x y) ≡ false) × IsLeast x ys

  abbrev pub Rises : List X → Type 0
  Rises [] = Unit {0}
  Rises (x ∷ xs) = IsLeast x xs × Rises xs

  abbrev pub one : X → X → ℕ
  one e x = if is_eq (cmp e x) then 1 else 0

  abbrev pub count : X → List X → ℕ
  count e [] = 0
  count e (x ∷ xs) = one e x + count e xs

  pub least_below : (x y : X) (zs : List X) → is_gt (cmp x y) ≡ false → IsLeast y zs → IsLeast x zs
  least_below x y [] le least = tt
  least_below x y (z ∷ zs) le least = (upto total x y z le least.0, least_below x y zs le least.1)

  one_itself : (x : X) → one x x ≡ 1
  one_itself x = rw (tied_itself total x) refl

  -- What is counted in a list is no less than what is least in it.
  counted_by : (x e y : X) (n : ℕ) (r : Ordering) → cmp e y ≡ r → is_gt (cmp x y) ≡ false → (0 < n → is_gt (cmp x e) ≡ false) → 0 < one e y + n → is_gt (cmp x e) ≡ false
  counted_by x e y n Equal is least rest some = subst (λ z. is_gt (cmp x z) ≡ false) (sym (ties e y is)) least
  counted_by x e y n Less is least rest some = rest (let none : one e y ≡ 0 = rw is refl in omega (arith, none, some))
  counted_by x e y n Greater is least rest some = rest (let none : one e y ≡ 0 = rw is refl in omega (arith, none, some))

  pub counted : (x e : X) (xs : List X) → IsLeast x xs → 0 < count e xs → is_gt (cmp x e) ≡ false
  counted x e [] least some = grind arith
  counted x e (y ∷ ys) least some = counted_by x e y (count e ys) (cmp e y) refl least.0 (counted x e ys least.1) some

  level : (r s : Ordering) → r ≡ ordering_reverse s → is_gt r ≡ false → is_gt s ≡ false → r ≡ Equal
  level Equal s is le ge = refl
  level Less Less is le ge = absurd (true≢false (sym (ap is_gt is)))
  level Less Equal is le ge = is
  level Less Greater is le ge = absurd (true≢false ge)
  level Greater s is le ge = absurd (true≢false le)

  not_above : (x y : X) → is_gt (cmp x y) ≡ false → is_gt (cmp y x) ≡ false → x ≡ y
  not_above x y le ge = ties x y (level (cmp x y) (cmp y x) (total.antisymm x y) le ge)

  -- The first of a list that rises isn't above the first of another with the same elements.
  above : (y : X) (ys : List X) (x : X) (xs : List X) → Rises (x ∷ xs) → count y (y ∷ ys) ≡ count y (x ∷ xs) → is_gt (cmp x y) ≡ false
  above y ys x xs rise same =
      counted x y (x ∷ xs) (ap is_gt (tied_itself total x), rise.0)
      (let itself = one_itself y in let some : 0 < count y (y ∷ ys) = omega (arith, itself) in subst (λ n. 0 < n) same some)

  cancel : (k m n : ℕ) → k + m ≡ k + n → m ≡ n
  cancel k m n same = omega (arith, same)

  -- Two lists that rise are equal where each element stands in both as often.
  pub one_rise : (xs ys : List X) → Rises xs → Rises ys → ((e : X) → count e xs ≡ count e ys) → xs ≡ ys
  one_rise [] [] rise also same = refl
  one_rise [] (y ∷ ys) rise also same = let it = same y in let itself = one_itself y in absurd (let no : 0 ≡ 1 + count y ys = it ∙ ap (λ n. n + count y ys) itself in omega (arith, no))
  one_rise (x ∷ xs) [] rise also same = let it = same x in let itself = one_itself x in absurd (let no : 1 + count x xs ≡ 0 = ap (λ n. n + count x xs) (sym itself) ∙ it in omega (arith, no))
  one_rise (x ∷ xs) (y ∷ ys) rise also same =
      let first : x ≡ y = not_above x y (above y ys x xs rise (sym (same y))) (above x xs y ys also (same x)) in
      let rest : xs ≡ ys = one_rise xs ys rise.1 also.1 (λ e. cancel (one e x) (count e xs) (count e ys) (same e ∙ ap (λ z. one e z + count e ys) (sym first))) in
      ap (λ z. z ∷ xs) first ∙ ap (λ zs. y ∷ zs) rest

  -- What is put into a list stands there once more, and the list rises as before.
  placed_counts_by : (e x y : X) (ys : List X) (b : Bool) → count e (placed cmp x ys) ≡ one e x + count e ys
      → count e (if b then y ∷ placed cmp x ys else x ∷ y ∷ ys) ≡ one e x + (one e y + count e ys)
  placed_counts_by e x y ys true rest = ap (λ n. one e y + n) rest ∙ omega arith
  placed_counts_by e x y ys false rest = refl

  pub placed_counts : (e x : X) (ys : List X) → count e (placed cmp x ys) ≡ one e x + count e ys
  placed_counts e x [] = refl
  placed_counts e x (y ∷ ys) = placed_counts_by e x y ys (is_gt (cmp x y)) (placed_counts e x ys)

  placed_least_by : (z x y : X) (ys : List X) (b : Bool) → is_gt (cmp z x) ≡ false → IsLeast z (y ∷ ys) → IsLeast z (placed cmp x ys)
      → IsLeast z (if b then y ∷ placed cmp x ys else x ∷ y ∷ ys)
  placed_least_by z x y ys true le least rest = (least.0, rest)
  placed_least_by z x y ys false le least rest = (le, least)

  placed_least : (z x : X) (ys : List X) → is_gt (cmp z x) ≡ false → IsLeast z ys → IsLeast z (placed cmp x ys)
  placed_least z x [] le least = (le, tt)
  placed_least z x (y ∷ ys) le least = placed_least_by z x y ys (is_gt (cmp x y)) le least (placed_least z x ys le least.1)

  turned : (r s : Ordering) → r ≡ ordering_reverse s → is_gt s ≡ true → is_gt r ≡ false
  turned r Less is gt = absurd (true≢false (sym gt))
  turned r Equal is gt = absurd (true≢false (sym gt))
  turned r Greater is gt = ap is_gt is

  placed_rises_by : (x y : X) (ys : List X) (b : Bool) → is_gt (cmp x y) ≡ b → Rises (y ∷ ys) → Rises (placed cmp x ys)
      → Rises (if b then y ∷ placed cmp x ys else x ∷ y ∷ ys)
  placed_rises_by x y ys true is rise rest = (placed_least y x ys (turned (cmp y x) (cmp x y) (total.antisymm y x) is) rise.0, rest)
  placed_rises_by x y ys false is rise rest = ((is, least_below x y ys is rise.0), rise)

  pub placed_rises : (x : X) (ys : List X) → Rises ys → Rises (placed cmp x ys)
  placed_rises x [] rise = (tt, tt)
  placed_rises x (y ∷ ys) rise = placed_rises_by x y ys (is_gt (cmp x y)) refl rise (placed_rises x ys rise.1)

  pub order_counts : (e : X) (xs : List X) → count e (in_order cmp xs) ≡ count e xs
  order_counts e [] = refl
  order_counts e (x ∷ xs) = placed_counts e x (in_order cmp xs) ∙ ap (λ n. one e x + n) (order_counts e xs)

  pub order_rises : (xs : List X) → Rises (in_order cmp xs)
  order_rises [] = tt
  order_rises (x ∷ xs) = placed_rises x (in_order cmp xs) (order_rises xs)

  -- A list that std's sort calls sorted rises.
  not_less : (r s : Ordering) → r ≡ ordering_reverse s → is_lt s ≡ false → is_gt r ≡ false
  not_less r Less is below = absurd (true≢false below)
  not_less r Equal is below = ap is_gt is
  not_less r Greater is below = ap is_gt is

  later : (x : X) (xs : List X) → IsSorted cmp (x ∷ xs) → IsSorted cmp xs
  later x xs is k d low high =
      let next : suc k + 1 ≡ suc (k + 1) = omega arith in
      subst (λ n. is_lt (cmp (slice_index_or (x ∷ xs) n d) (slice_index_or xs k d)) ≡ false) next (is (suc k) d (omega arith) (omega (arith, high)))

  pub sorted_rises : (xs : List X) → IsSorted cmp xs → Rises xs
  sorted_rises [] is = tt
  sorted_rises (x ∷ []) is = (tt, tt)
  sorted_rises (x ∷ y ∷ ys) is =
      let rest : Rises (y ∷ ys) = sorted_rises (y ∷ ys) (later x (y ∷ ys) is) in
      let le : is_gt (cmp x y) ≡ false = not_less (cmp x y) (cmp y x) (total.antisymm x y) (is 0 x (omega arith) (omega arith)) in
      ((le, least_below x y ys le rest.0), rest)

  counts_sum : (e : X) (xs : List X) → count e xs ≡ sum_by (one e) xs
  counts_sum e [] = refl
  counts_sum e (x ∷ xs) = ap (λ n. one e x + n) (counts_sum e xs) ∙ sym (sum_by-cons (one e) x xs)

  -- A sorted permutation is the list in order.
  pub only_sorted : (xs ys : List X) → IsPermutation xs ys → IsSorted cmp ys → ys ≡ in_order cmp xs
  only_sorted xs ys same sorted =
      one_rise ys (in_order cmp xs) (sorted_rises ys sorted) (order_rises xs)
      (λ e. counts_sum e ys ∙ sum_by-IsPermutation (one e) xs ys same ∙ sym (counts_sum e xs) ∙ sym (order_counts e xs))

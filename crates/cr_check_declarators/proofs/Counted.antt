-- A declarator finds a bracket exactly where some array of its type has too many cells.
use Rattle.std.proofs.Common.{◌≡◌, ◌<◌, ◌≤◌, ◌+◌, ◌*◌, ◌||◌, ◌==◌, not, ℕ, zero, suc, Bool, true, false, Option, Some, None, is_some, nat_lt, if◌then◌else◌, refl, sym, ap, subst, ◌∙◌, arith, true≢false}
use Rattle.std.proofs.lemmas.Bool.{lt-ltb, ltb-true, le-ltb, ltb-false, ne_eqb}
use Rattle.cr_check_types.specs.Types.{Qualified}
use Rattle.cr_check_types.specs.Layouts.{fitted}
use Rattle.cr_check_types.proofs.Fitted.{cut_step}
use Rattle.cr_check_declarators.specs.declared.declarator.Arrays.{Arrays}
use Rattle.cr_check_declarators.specs.declared.declarator.Declarator.{Declarator}
use Rattle.cr_check_declarators.specs.Specifiers.{first_of}
use Rattle.cr_check_declarators.specs.Declarators.{most_cells, no_arrays, function_by, overfull_of, has_too_many, are_whole}
use Rattle.cr_check_declarators.specs.Cells.{Derives, named, starred, sized, unsized, called, has_large, CellsAreCounted}

-- ---- numbers

small : (c m : ℕ) → 0 < c → fitted (c * m) ≤ 1048576 → m ≤ 1048576
small zero m h e = omega (arith, h)
small (suc c) m h e = let p : suc c * m ≡ m + c * m = omega arith in omega (arith, p, e)

large : (c m : ℕ) → c ≡ 1 → 1048576 < fitted (c * m) → 1048576 < m
large c m e h =
    let one : 1 * m ≡ m = omega arith in
    let p : c * m ≡ m = ap (λ k. k * m) e ∙ one in
    omega (arith, p, h)

product : (a n : ℕ) → 0 < a → 0 < n → 0 < fitted (a * n)
product zero n h e = omega (arith, h)
product (suc a) n h e = let p : suc a * n ≡ n + a * n = omega arith in omega (arith, p, e)

-- ---- what the arrays of a declarator keep: a product above 0, which is 1 where no bracket is kept

record Keeps (a : Arrays) : Type 0 where
  positive : 0 < a.count
  alone : a.bracket ≡ None → a.count ≡ 1

keep_none : Keeps no_arrays
keep_none = record { positive = omega arith; alone = λ e. refl }

never : (x : Option ℕ) (k : ℕ) → first_of x (Some k) ≡ None → ⊥
never (Some j) k e = true≢false (ap is_some e)
never None k e = true≢false (ap is_some e)

same_arrays : (f : Option ℕ) (d : Declarator) (node : ℕ) (empty : Bool) → (function_by f true d node empty).arrays ≡ d.arrays
same_arrays None d node empty = refl
same_arrays (Some other) d node empty = refl

same_bracket : (f : Option ℕ) (d : Declarator) (node : ℕ) (empty : Bool) → (function_by f true d node empty).overfull ≡ d.overfull
same_bracket None d node empty = refl
same_bracket (Some other) d node empty = refl

keeps : (d : Declarator) (t : Qualified) → Derives d t → Keeps d.arrays
keeps _ _ named = keep_none
keeps _ _ (starred d t c v token h) = keep_none
keeps _ _ (sized d t k n p h) = record {
  positive = product d.arrays.count n (keeps d t h).positive p;
  alone = λ e. absurd (never d.arrays.bracket k e);
}
keeps _ _ (unsized d t k h) = keeps d t h
keeps _ _ (called d t node empty hole h) = subst Keeps (sym (same_arrays d.function d node empty)) (keeps d t h)

-- behind an array of unknown size stands no other
no_bracket : (d : Declarator) (t : Qualified) → Derives d t → are_whole false t ≡ true → d.arrays.bracket ≡ None
no_bracket _ _ named w = refl
no_bracket _ _ (starred d t c v token h) w = refl
no_bracket _ _ (sized d t k n p h) w = absurd (true≢false (sym w))
no_bracket _ _ (unsized d t k h) w = absurd (true≢false (sym w))
no_bracket _ _ (called d t node empty hole h) w = ap (λ a. a.bracket) (same_arrays d.function d node empty) ∙ no_bracket d t h w

-- ---- the law

none_found : (x : Bool) (before : Option ℕ) → is_some (if x then first_of before None else before) ≡ is_some before
none_found false before = refl
none_found true (Some token) = refl
none_found true None = refl

or_true : (left right : Bool) → true ≡ right → true ≡ (left || right)
or_true true right e = refl
or_true false right e = e

either : (x left right : Bool) (before bracket : Option ℕ) (k : ℕ) → is_some (if x then first_of before bracket else before) ≡ right
    → (x ≡ false → left ≡ false) → (x ≡ true → bracket ≡ None → left ≡ true)
    → is_some (if x then first_of before (first_of bracket (Some k)) else before) ≡ (left || right)
either false left right before bracket k e apart one = e ∙ ap (λ l. l || right) (sym (apart refl))
either true left right (Some token) bracket k e apart one = or_true left right e
either true left right None (Some j) k e apart one = or_true left right e
either true left right None None k e apart one = ap (λ l. l || right) (sym (one refl refl))

whole_inside : (n : ℕ) (t : Qualified) → 0 < n → are_whole (not (n == 0)) t ≡ true → are_whole true t ≡ true
whole_inside n t h e =
    let f : (n == 0) ≡ false = ne_eqb n 0 (λ z. positive_is_not n h z) in
    subst (λ b. are_whole (not b) t ≡ true) f e
  where
    positive_is_not : (m : ℕ) → 0 < m → m ≡ 0 → ⊥
    positive_is_not m p z = omega (arith, p, z)

pub counted : CellsAreCounted
counted _ _ cells named w = none_found (has_too_many no_arrays cells) None
counted _ _ cells (starred d t c v token h) w =
    none_found (has_too_many no_arrays cells) (overfull_of d.overfull d.arrays 1) ∙ counted d t 1 h w
counted _ _ cells (sized d t k n p h) w =
    ap (λ m. is_some (if nat_lt most_cells m then first_of d.overfull (first_of d.arrays.bracket (Some k)) else d.overfull)) (cut_step d.arrays.count n cells)
    ∙ either (has_too_many d.arrays (n * cells)) (nat_lt most_cells (n * cells)) (has_large (n * cells) t) d.overfull d.arrays.bracket k
    (counted d t (n * cells) h (whole_inside n t p w))
    (λ e. le-ltb most_cells (n * cells) (small d.arrays.count (n * cells) (keeps d t h).positive (ltb-false most_cells (fitted (d.arrays.count * (n * cells))) e)))
    (λ e none. lt-ltb most_cells (n * cells) (large d.arrays.count (n * cells) ((keeps d t h).alone none) (ltb-true most_cells (fitted (d.arrays.count * (n * cells))) e)))
counted _ _ cells (unsized d t k h) w =
    let none = no_bracket d t h w in
    without d none cells ∙ sym (without d none (0 * cells)) ∙ counted d t (0 * cells) h (whole_anyhow d t h w)
    ∙ ap (λ l. l || has_large (0 * cells) t) (sym (le-ltb most_cells (0 * cells) (omega arith)))
  where
    without : (e : Declarator) → e.arrays.bracket ≡ None → (m : ℕ) → is_some (overfull_of e.overfull e.arrays m) ≡ is_some e.overfull
    without e none m =
        ap (λ b. is_some (if has_too_many e.arrays m then first_of e.overfull b else e.overfull)) none ∙ none_found (has_too_many e.arrays m) e.overfull

    whole_anyhow : (e : Declarator) (u : Qualified) → Derives e u → are_whole false u ≡ true → are_whole true u ≡ true
    whole_anyhow _ _ named v = refl
    whole_anyhow _ _ (starred e u c v token i) x = x
    whole_anyhow _ _ (sized e u j n p i) x = absurd (true≢false (sym x))
    whole_anyhow _ _ (unsized e u j i) x = absurd (true≢false (sym x))
    whole_anyhow _ _ (called e u node empty hole i) x = whole_anyhow e u i x
counted _ _ cells (called d t node empty hole h) w =
    ap (λ o. is_some (overfull_of o (function_by d.function true d node empty).arrays cells)) (same_bracket d.function d node empty)
    ∙ ap (λ a. is_some (overfull_of d.overfull a cells)) (same_arrays d.function d node empty)
    ∙ counted d t cells h w

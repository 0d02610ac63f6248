-- The numbers of cursors: how many stand before a level, and which one stands at a place.
use Rattle.std.proofs.Common.{◌≡◌, ℕ, zero, suc, ◌+◌, ◌<◌, List, [], ◌∷◌, ◌++◌, length, Some, subst, sym, ap, ◌∙◌, refl, arith, zero-add, add-one, ◌⊎◌, inl, inr}
use Rattle.std.specs.List.{slice_get}
use Rattle.std.proofs.lemmas.List.{length-append}
use Rattle.cr_cursor.specs.declared.passes.Cursor.{Cursor}
use Rattle.cr_cursor.specs.Variants.{Widths, cursor, cursors, cursors_below, level_cursors, pass_count, pass_cursors}

pub front : {A : Type 0} (xs ys : List A) (i : ℕ) (x : A) → slice_get xs i ≡ Some x → slice_get (xs ++ ys) i ≡ Some x
front [] ys i x h = cc
front (a ∷ xs) ys zero x h = h
front (a ∷ xs) ys (suc i) x h = front xs ys i x h

pub back : {A : Type 0} (xs ys : List A) (i : ℕ) (x : A) → slice_get ys i ≡ Some x → slice_get (xs ++ ys) (length xs + i) ≡ Some x
back [] ys i x h = rw zero-add h
back (a ∷ xs) ys i x h =
    let e : length (a ∷ xs) + i ≡ suc (length xs + i) = omega arith in
    subst (λ k. slice_get (a ∷ (xs ++ ys)) k ≡ Some x) (sym e) (back xs ys i x h)

pub below_or_last : (i n : ℕ) → i < suc n → (i < n) ⊎ (i ≡ n)
below_or_last i n h = search arith

-- lengths

pub length-level_cursors : (pass level n : ℕ) → length (level_cursors pass level n) ≡ n
unfolding level_cursors
length-level_cursors pass level zero = refl
length-level_cursors pass level (suc n) = omega (arith, length-append (level_cursors pass level n) (cursor pass level n ∷ []), length-level_cursors pass level n)

pub no_levels : (w : Widths) (pass : ℕ) → length (pass_cursors w pass 0) ≡ 0
unfolding pass_cursors
no_levels w pass = refl

pub level_after : (w : Widths) (pass n : ℕ) → length (pass_cursors w pass (suc n)) ≡ length (pass_cursors w pass n) + w pass n
unfolding pass_cursors
level_after w pass n = length-append (pass_cursors w pass n) (level_cursors pass n (w pass n)) ∙ ap (λ k. length (pass_cursors w pass n) + k) (length-level_cursors pass n (w pass n))

pub one_level : (w : Widths) (pass n : ℕ) → length (pass_cursors w pass (n + 1)) ≡ length (pass_cursors w pass n) + w pass n
one_level w pass n = rw add-one (level_after w pass n)

pub no_passes : (w : Widths) → length (cursors_below w 0) ≡ 0
unfolding cursors_below
no_passes w = refl

pub pass_after : (w : Widths) (n : ℕ) → length (cursors_below w (suc n)) ≡ length (cursors_below w n) + length (pass_cursors w n 16)
unfolding cursors_below
pass_after w n = length-append (cursors_below w n) (pass_cursors w n 16)

pub one_pass : (w : Widths) (n : ℕ) → length (cursors_below w (n + 1)) ≡ length (cursors_below w n) + length (pass_cursors w n 16)
one_pass w n = rw add-one (pass_after w n)

pub all_passes : (w : Widths) → cursors w ≡ cursors_below w pass_count
unfolding cursors
all_passes w = refl

-- places

in_level : (pass level n i : ℕ) → i < n → slice_get (level_cursors pass level n) i ≡ Some (cursor pass level i)
unfolding level_cursors
in_level pass level zero i h = absurd (omega arith)
in_level pass level (suc n) i h = elim (below_or_last i n h) [
  | inl less ↦ front (level_cursors pass level n) (cursor pass level n ∷ []) i _ (in_level pass level n i less)
  | inr last ↦
      let here = back (level_cursors pass level n) (cursor pass level n ∷ []) 0 (cursor pass level n) refl in
      let at : length (level_cursors pass level n) + 0 ≡ i = omega (arith, length-level_cursors pass level n) in
      subst (λ k. slice_get (level_cursors pass level n ++ cursor pass level n ∷ []) i ≡ Some (cursor pass level k)) (sym last)
      (subst (λ k. slice_get (level_cursors pass level n ++ cursor pass level n ∷ []) k ≡ Some (cursor pass level n)) at here)
]

-- the i-th cursor of a level, among those of its pass
pub in_pass : (w : Widths) (pass n level i : ℕ) → level < n → i < w pass level → slice_get (pass_cursors w pass n) (length (pass_cursors w pass level) + i) ≡ Some (cursor pass level i)
unfolding pass_cursors
in_pass w pass zero level i l h = absurd (omega arith)
in_pass w pass (suc n) level i l h = elim (below_or_last level n l) [
  | inl less ↦ front (pass_cursors w pass n) (level_cursors pass n (w pass n)) (length (pass_cursors w pass level) + i) _ (in_pass w pass n level i less h)
  | inr last ↦ subst (λ k. i < w pass k → slice_get (pass_cursors w pass n ++ level_cursors pass n (w pass n)) (length (pass_cursors w pass k) + i) ≡ Some (cursor pass k i)) (sym last)
      (λ below. back (pass_cursors w pass n) (level_cursors pass n (w pass n)) i _ (in_level pass n (w pass n) i below)) h
]

-- what stands at a place among the cursors of a pass, among all below it
pub in_all : (w : Widths) (n pass i : ℕ) (c : Cursor) → pass < n → slice_get (pass_cursors w pass 16) i ≡ Some c → slice_get (cursors_below w n) (length (cursors_below w pass) + i) ≡ Some c
unfolding cursors_below
in_all w zero pass i c l h = absurd (omega arith)
in_all w (suc n) pass i c l h = elim (below_or_last pass n l) [
  | inl less ↦ front (cursors_below w n) (pass_cursors w n 16) (length (cursors_below w pass) + i) c (in_all w n pass i c less h)
  | inr last ↦ subst (λ k. slice_get (pass_cursors w k 16) i ≡ Some c → slice_get (cursors_below w n ++ pass_cursors w n 16) (length (cursors_below w k) + i) ≡ Some c) (sym last)
      (λ there. back (cursors_below w n) (pass_cursors w n 16) i c there) h
]

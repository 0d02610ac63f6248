-- What stands among the cursors, and where.
use Rattle.std.proofs.Common.{◌≡◌, ℕ, zero, suc, ◌+◌, ◌<◌, ◌≤◌, ◌⊎◌, inl, inr, List, [], ◌∷◌, ◌++◌, length, Some, subst, sym, ap, refl, arith}
use Rattle.std.specs.List.{slice_get}
use Rattle.cr_cursor.specs.declared.passes.Cursor.{Cursor}
use Rattle.cr_cursor.specs.Variants.{Widths, cursor, cursors, cursors_below, level_cursors, pass_count, pass_cursors, place_of}
use Rattle.cr_cursor.proofs.Numbering.{below_or_last, length-level_cursors, level_after, pass_after, all_passes}

-- an item of two lists joined stands in one of them
split : {A : Type 0} (xs ys : List A) (i : ℕ) (x : A) → slice_get (xs ++ ys) i ≡ Some x → (slice_get xs i ≡ Some x) ⊎ ((j : ℕ) × (slice_get ys j ≡ Some x) × (i ≡ length xs + j))
split [] ys i x h = inr (i, cc, omega arith)
split (a ∷ xs) ys zero x h = inl h
split (a ∷ xs) ys (suc i) x h = elim (split xs ys i x h) [
  | inl before ↦ inl before
  | inr after ↦ inr (after.0, after.1, omega (arith, after.2))
]

only : {A : Type 0} (a x : A) (i : ℕ) → slice_get (a ∷ []) i ≡ Some x → (x ≡ a) × (i ≡ 0)
only a x zero h = (cc, refl)
only a x (suc i) h = cc

-- What a cursor at place i is: of a pass and a level below these, below its level's width, and behind the variants of
-- the passes and levels before it.
pub record IsBelow (w : Widths) (passes levels i : ℕ) (c : Cursor) : Type 0 where
  pub pass : c.pass < passes
  pub level : c.level < levels
  pub index : c.index < w c.pass c.level
  pub place : i ≡ length (cursors_below w c.pass) + length (pass_cursors w c.pass c.level) + c.index

record IsOfLevel (pass level n i : ℕ) (c : Cursor) : Type 0 where
  pass_is : c.pass ≡ pass
  level_is : c.level ≡ level
  index_below : c.index < n
  place : i ≡ c.index

of_level : (pass level n i : ℕ) (c : Cursor) → slice_get (level_cursors pass level n) i ≡ Some c → IsOfLevel pass level n i c
unfolding level_cursors
of_level pass level zero i c h = cc
of_level pass level (suc n) i c h = elim (split (level_cursors pass level n) (cursor pass level n ∷ []) i c h) [
  | inl before ↦ let b = of_level pass level n i c before in record { pass_is = b.pass_is; level_is = b.level_is; index_below = omega (arith, b.index_below); place = b.place }
  | inr last ↦ let e = only (cursor pass level n) c last.0 last.1 in
      subst (IsOfLevel pass level (suc n) i) (sym e.0)
      (record { pass_is = refl; level_is = refl; index_below = omega arith; place = omega (arith, last.2, e.1, length-level_cursors pass level n) })
]

record IsOfPass (w : Widths) (pass levels i : ℕ) (c : Cursor) : Type 0 where
  pass_is : c.pass ≡ pass
  level_below : c.level < levels
  index_below : c.index < w pass c.level
  place : i ≡ length (pass_cursors w pass c.level) + c.index

of_pass : (w : Widths) (pass n i : ℕ) (c : Cursor) → slice_get (pass_cursors w pass n) i ≡ Some c → IsOfPass w pass n i c
unfolding pass_cursors
of_pass w pass zero i c h = cc
of_pass w pass (suc n) i c h = elim (split (pass_cursors w pass n) (level_cursors pass n (w pass n)) i c h) [
  | inl before ↦ let b = of_pass w pass n i c before in record { pass_is = b.pass_is; level_below = omega (arith, b.level_below); index_below = b.index_below; place = b.place }
  | inr last ↦ let b = of_level pass n (w pass n) last.0 c last.1 in
      record {
        pass_is = b.pass_is;
        level_below = omega (arith, b.level_is);
        index_below = subst (λ l. c.index < w pass l) (sym b.level_is) b.index_below;
        place = subst (λ l. i ≡ length (pass_cursors w pass l) + c.index) (sym b.level_is) (omega (arith, last.2, b.place));
      }
]

of_all : (w : Widths) (n i : ℕ) (c : Cursor) → slice_get (cursors_below w n) i ≡ Some c → IsBelow w n 16 i c
unfolding cursors_below
of_all w zero i c h = cc
of_all w (suc n) i c h = elim (split (cursors_below w n) (pass_cursors w n 16) i c h) [
  | inl before ↦ let b = of_all w n i c before in record { pass = omega (arith, b.pass); level = b.level; index = b.index; place = b.place }
  | inr last ↦ let b = of_pass w n 16 last.0 c last.1 in
      record {
        pass = omega (arith, b.pass_is);
        level = b.level_below;
        index = subst (λ q. c.index < w q c.level) (sym b.pass_is) b.index_below;
        place = subst (λ q. i ≡ length (cursors_below w q) + length (pass_cursors w q c.level) + c.index) (sym b.pass_is) (omega (arith, last.2, b.place));
      }
]

-- a cursor that stands among all is one of the passes, of a level below 16, and below its level's width
pub of_cursors : (w : Widths) (i : ℕ) (c : Cursor) → slice_get (cursors w) i ≡ Some c → IsBelow w pass_count 16 i c
of_cursors w i c h = of_all w pass_count i c (subst (λ all. slice_get all i ≡ Some c) (all_passes w) h)

pub level_fits : (w : Widths) (pass level n : ℕ) → level < n → length (pass_cursors w pass level) + w pass level ≤ length (pass_cursors w pass n)
level_fits w pass level zero h = absurd (omega arith)
level_fits w pass level (suc n) h = elim (below_or_last level n h) [
  | inl less ↦ omega (arith, level_fits w pass level n less, level_after w pass n)
  | inr last ↦ subst (λ l. length (pass_cursors w pass l) + w pass l ≤ length (pass_cursors w pass (suc n))) (sym last) (omega (arith, level_after w pass n))
]

pub pass_fits : (w : Widths) (pass n : ℕ) → pass < n → length (cursors_below w pass) + length (pass_cursors w pass 16) ≤ length (cursors_below w n)
pass_fits w pass zero h = absurd (omega arith)
pass_fits w pass (suc n) h = elim (below_or_last pass n h) [
  | inl less ↦ omega (arith, pass_fits w pass n less, pass_after w n)
  | inr last ↦ subst (λ q. length (cursors_below w q) + length (pass_cursors w q 16) ≤ length (cursors_below w (suc n))) (sym last) (omega (arith, pass_after w n))
]

-- the place of a cursor is at most the number of all variants
pub place_within : (w : Widths) (c : Cursor) → c.pass < pass_count → c.level < 16 → place_of w c ≤ length (cursors w)
place_within w c pass level =
    let by_level = level_fits w c.pass c.level 16 level in
    let by_pass = pass_fits w c.pass pass_count pass in
    omega (arith, by_level, by_pass, ap length (all_passes w))

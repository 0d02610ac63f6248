-- The order of cursors, whatever the widths are: a cursor's rank among as many indices as the size for each level.
use Rattle.std.proofs.Common.{◌≡◌, ℕ, zero, suc, ◌+◌, ◌*◌, ◌<◌, ◌≤◌, inl, inr, length, subst, sym, ap, ◌∙◌, arith}
use Rattle.std.proofs.Math.Nat.{mul-le-mul_right, suc-mul}
use Rattle.std.proofs.lemmas.Bool.{cases_lt, cases_order}
use Rattle.cr_cursor.specs.declared.passes.Cursor.{Cursor}
use Rattle.cr_cursor.specs.Variants.{Widths, cursors_below, pass_count, pass_cursors, place_of}
use Rattle.cr_reduce.specs.Bound.{levels_below}
use Rattle.cr_cursor.proofs.Numbering.{below_or_last}
use Rattle.cr_cursor.proofs.Members.{IsBelow, level_fits, pass_fits}

-- the number of a cursor's level among those of all passes
abbrev pub step_of : (ℕ → ℕ) → Cursor → ℕ
step_of levels c = levels_below levels c.pass + c.level

abbrev pub rank_of : (ℕ → ℕ) → ℕ → Cursor → ℕ
rank_of levels size c = step_of levels c * size + c.index

levels_fit : (levels : ℕ → ℕ) (pass n : ℕ) → pass < n → levels_below levels pass + levels pass ≤ levels_below levels n
levels_fit levels pass zero h = absurd (omega arith)
levels_fit levels pass (suc n) h = elim (below_or_last pass n h) [
  | inl less ↦ omega (arith, levels_fit levels pass n less)
  | inr last ↦ subst (λ q. levels_below levels q + levels q ≤ levels_below levels (suc n)) (sym last) (omega arith)
]

-- an earlier level has the lesser ranks
earlier : (size k m i j : ℕ) → k < m → i ≤ size → k * size + i ≤ m * size + j
earlier size k m i j less few =
    let steps : suc k * size ≤ m * size = mul-le-mul_right size less in
    omega (arith, steps, suc-mul k size)

earlier_pass : (levels : ℕ → ℕ) (a c : Cursor) → a.level < levels a.pass → a.pass < c.pass → step_of levels a < step_of levels c
earlier_pass levels a c below pass = omega (arith, levels_fit levels a.pass c.pass pass)

earlier_level : (levels : ℕ → ℕ) (a c : Cursor) → a.pass ≡ c.pass → a.level < c.level → step_of levels a < step_of levels c
earlier_level levels a c same level = omega (arith, ap (levels_below levels) same)

-- what has variants is a level of its pass
pub is_level : (levels : ℕ → ℕ) (w : Widths) → ((pass level : ℕ) → levels pass ≤ level → w pass level ≡ 0) → (c : Cursor) → c.index < w c.pass c.level → c.level < levels c.pass
is_level levels w none c index = elim (cases_lt c.level (levels c.pass)) [
  | inl below ↦ below
  | inr above ↦ absurd (omega (arith, none c.pass c.level above))
]

-- in one pass
rises_in_pass : (levels : ℕ → ℕ) (size : ℕ) (w : Widths) (a c : Cursor) (j : ℕ) → a.index ≤ size → IsBelow w pass_count 16 j c → place_of w a ≤ j → a.pass ≡ c.pass
    → rank_of levels size a ≤ rank_of levels size c
rises_in_pass levels size w a c j few at behind same = elim (cases_order a.level c.level) [
  | inr (inl less) ↦ earlier size (step_of levels a) (step_of levels c) a.index c.index (earlier_level levels a c same less) few
  | inl level ↦
      let before = ap (λ q. length (cursors_below w q)) same in
      let levels_before = ap (λ q. length (pass_cursors w q a.level)) same ∙ ap (λ l. length (pass_cursors w c.pass l)) level in
      let width = ap (λ q. w q a.level) same ∙ ap (λ l. w c.pass l) level in
      let steps = ap (λ q. (levels_below levels q + a.level) * size) same ∙ ap (λ l. (levels_below levels c.pass + l) * size) level in
      omega (arith, at.place, at.index, before, levels_before, width, steps)
  | inr (inr more) ↦
      let before = ap (λ q. length (cursors_below w q)) same in
      let levels_before = ap (λ q. length (pass_cursors w q a.level)) same in
      absurd (omega (arith, at.place, at.index, before, levels_before, level_fits w c.pass c.level a.level more))
]

-- What stands at or behind the place of a cursor has at least its rank.
pub rises : (levels : ℕ → ℕ) (size : ℕ) (w : Widths) (a c : Cursor) (j : ℕ) → a.level < levels a.pass → a.index ≤ size → IsBelow w pass_count 16 j c → place_of w a ≤ j
    → rank_of levels size a ≤ rank_of levels size c
rises levels size w a c j level few at behind = elim (cases_order a.pass c.pass) [
  | inr (inl less) ↦ earlier size (step_of levels a) (step_of levels c) a.index c.index (earlier_pass levels a c level less) few
  | inl same ↦ rises_in_pass levels size w a c j few at behind same
  | inr (inr more) ↦ absurd (omega (arith, at.place, at.index, level_fits w c.pass c.level 16 at.level, pass_fits w c.pass a.pass more))
]

pub rank_below : (levels : ℕ → ℕ) (size : ℕ) (c : Cursor) → c.pass < pass_count → c.level < levels c.pass → c.index < size → rank_of levels size c < levels_below levels pass_count * size
rank_below levels size c pass level index =
    let less : step_of levels c < levels_below levels pass_count = omega (arith, levels_fit levels c.pass pass_count pass) in
    omega (arith, earlier size (step_of levels c) (levels_below levels pass_count) (c.index + 1) 0 less (omega arith))

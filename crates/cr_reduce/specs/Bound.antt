-- How many turns are enough for a reduction to end by itself.
use Rattle.std.specs.Prelude.{◌≡◌, ℕ, zero, suc, ◌+◌, ◌*◌, ◌≤◌, List, length}
use Rattle.cr_cursor.specs.Variants.{Offer, pass_count}
use Rattle.cr_reduce.specs.Reduction.{Proposals}

-- how many levels the passes below n have together, where each pass has so many
abbrev pub levels_below : (ℕ → ℕ) → ℕ → ℕ
levels_below levels zero = 0
levels_below levels (suc n) = levels_below levels n + levels n

-- Each pass has so many levels at most, and a level no more variants than the file has bytes.
pub record HasLevels (p : Proposals) (levels : ℕ → ℕ) : Type 0 where
  pub none_above : (file : List ℕ) (o : Offer) (pass level : ℕ) → p file o → levels pass ≤ level → o.widths pass level ≡ 0
  pub few : (file : List ℕ) (o : Offer) (pass level : ℕ) → p file o → o.widths pass level ≤ length file

-- A round looks at each index of each level once at most, so at no more positions than the file's size for a level. At
-- each acceptance the size falls, so there are no more of them than the size, and one round more.
abbrev pub enough_turns : (ℕ → ℕ) → ℕ → ℕ
enough_turns levels size = levels_below levels pass_count * size * (size + 1) + size

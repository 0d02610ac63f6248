-- Soundness of the speculative core.
-- It is said of a sum, "how many there are in all lists", so that it can be read of the lists of a `Core` and of those that the
-- passes of several threads hold.
use Rattle.std.specs.Prelude.{◌≡◌, ℕ, ◌+◌, ◌/◌, ◌<◌, ◌≤◌, ◌⊎◌, List, [], ◌∷◌}
use Rattle.cr_core.specs.declared.marks.HitKind.{HitKind}
use Rattle.cr_core.specs.declared.marks.Mark.TheVariants.{No, Hit, Skipped}
use Rattle.cr_core.specs.Row.{Row, word, opening, below, placed, marked, disorder, early, past}

-- what is counted in a list, added up over all lists
abbrev pub Sum : Type 0
Sum = (Row → ℕ) → ℕ

abbrev pub total : {A : Type 0} → (A → ℕ) → List A → ℕ
total f [] = 0
total f (x ∷ xs) = f x + total f xs

-- a position that no one need try: past the end, or above the position of the least hit
abbrev pub IsOver : ℕ → ℕ → ℕ → Type 0
IsOver len least p = (len ≤ p) ⊎ (least / 4 < p)

pub record IsSound (len next least : ℕ) (sum : Sum) : Type 0 where
  -- each number below `next` stands in one list, once, and no other number stands in any
  pub each_claimed_number_stands_once : (p : ℕ) → sum (placed p) ≡ below p next
  -- positions of a list rise, and only a last entry is open
  pub positions_rise_and_only_a_last_entry_is_open : sum (disorder 0) ≡ 0
  -- `least` is its first value, or the word of a hit
  pub the_least_word_is_the_first_or_a_hit : (least ≡ opening len)
      ⊎ ((p : ℕ) × (k : HitKind) × (least ≡ word p k) × (0 < sum (marked p (Hit k))))
  -- each hit is below the length, and its word isn't below `least`
  pub no_hit_lies_below_it : (p : ℕ) (k : HitKind) → 0 < sum (marked p (Hit k)) → (p < len) × (least ≤ word p k)
  -- each skipped entry is past the end or above the least position
  pub a_skipped_entry_is_over : (p : ℕ) → 0 < sum (marked p Skipped) → IsOver len least p
  -- each rejected entry is below the length
  pub a_rejected_entry_is_below_the_length : (p : ℕ) → 0 < sum (marked p No) → p < len
  -- each entry but a list's last is below the length
  pub only_a_last_entry_is_past_the_end : sum (early len) ≡ 0
  -- and so there are at most `len` claims and one more for each list (it follows, and is kept so that each step is plain arithmetic)
  pub next_is_bounded : next ≤ len + sum (past len)

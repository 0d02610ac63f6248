-- The rule that the two words and all passes keep at every moment.
use Rattle.std.specs.Prelude.{◌≡◌, ◌≢◌, ℕ, ◌+◌, ◌≤◌, ◌⊎◌, true, false, if◌then◌else◌, List, [], ◌∷◌, slice_index_or}
use mathlib.Core.Option.{some}
use lib.ListN.{get_elem?}
use Rattle.cr_claims.specs.declared.view.View.{View}
use Rattle.cr_core.specs.Row.{Row, last_position}
use Rattle.cr_core.specs.Sound.{Sum, total, IsOver, IsSound}

-- a number of a view, if that isn't spent
abbrev pub live : (View → ℕ) → View → ℕ
live w v = if v.spent then 0 else w v

-- what is counted in a view's lists, its own and the joined ones
abbrev pub in_lists : (Row → ℕ) → View → ℕ
in_lists f v = f v.own + total f v.joined

-- what is counted in the lists of all views that aren't spent
abbrev pub in_views : List View → Sum
in_views vs = λ f. total (live (in_lists f)) vs

-- 1 for the view of the keeper's, else 0
abbrev pub keeper_count : View → ℕ
keeper_count v = if v.keeper then 1 else 0

-- what the rule says of each view that isn't spent
pub record Fits (len least : ℕ) (v : View) : Type 0 where
  pub it_names_the_length : v.len ≡ len
  -- `least` only falls
  pub it_read_no_less : least ≤ v.read
  pub it_left_at_the_end : v.left ≡ true → (v.own ≢ []) × IsOver len least (last_position v.own)
  pub it_joined_what_is_over : (i : ℕ) → (slice_index_or v.joined i [] ≡ []) ⊎ IsOver len least (last_position (slice_index_or v.joined i []))
  pub only_the_keeper_splits_and_joins : v.keeper ≡ false → (v.splits ≡ 0) × (v.joined ≡ [])

pub record IsKept (len : ℕ) (words : List ℕ) (views : List View) : Type 0 where
  pub next : ℕ
  pub least : ℕ
  pub two_words : words ≡ next ∷ least ∷ []
  pub length_is_small : len ≤ 4096
  -- the words with all lists are a sound state of the core
  pub is_sound : IsSound len next least (in_views views)
  pub each_fits : (id : ℕ) (v : View) → get_elem? views id ≡ some v → v.spent ≡ false → Fits len least v
  pub one_is_the_keeper : total (live keeper_count) views ≡ 1
  -- each split made one list, and none is lost: the passes beside the keeper number its splits less its joins
  pub lists_number_the_splits : in_views views (λ _. 1) ≡ 1 + total (live (λ v. v.splits)) views
  pub splits_are_few : total (live (λ v. v.splits)) views ≤ 4096

-- Which `case`, `default` and label repeats one that stands before it in the text.
use Rattle.std.specs.Prelude.{◌&&◌, ◌||◌, ◌==◌, ℕ, ℤ, Bool, false, List, Option, length}
use Rattle.std.specs.Ordering.{int_eq}
use Rattle.cr_check_enclosing.specs.Repeats.{place_of, repeats_at}
use Rattle.cr_rows.specs.Columns.{AreOf}
use Rattle.cr_check_labels.specs.Labelled.{Scene}
use Rattle.cr_check_labels.specs.Marks.{case_at, default_at, label_at}

-- the node has the mark of one that stands before it in the text
abbrev pub is_repeated : {K : Type 0} → (K → K → Bool) → Scene → (ℕ → Option K) → ℕ → Bool
is_repeated eq s mark i = repeats_at eq mark (place_of s.nodes) (length s.nodes) i

abbrev pub same_value : ℕ × ℤ → ℕ × ℤ → Bool
same_value a b = (a.0 == b.0) && int_eq a.1 b.1

abbrev pub same_owner : ℕ → ℕ → Bool
same_owner a b = a == b

abbrev pub same_name : ℕ × ℕ → ℕ × ℕ → Bool
same_name a b = (a.0 == b.0) && (a.1 == b.1)

abbrev pub is_again : Scene → ℕ → Bool
is_again s i = is_repeated same_value s (case_at s) i || (is_repeated same_owner s (default_at s) i || is_repeated same_name s (label_at s) i)

abbrev pub AreAgain : Scene → List Bool → Type 0
AreAgain s again = AreOf (is_again s) false (length s.nodes) again

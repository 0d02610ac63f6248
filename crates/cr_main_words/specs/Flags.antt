-- The flags of the command line.
use Rattle.std.specs.Prelude.{◌≡◌, ℕ, ◌==◌, Bool, true, false, not, ◌&&◌, ◌||◌, nat_le, List, [], ◌∷◌, ◌++◌, codes, cond, drop, filter, Option, None, Some, slice_get, take}
use Rattle.std.specs.List.{before_first, count_by, list_all, list_any, position_or_len}
use Rattle.std.specs.Option.{option_map}
use Rattle.std.specs.Str.{bytes_eq}
use Rattle.cr_main_words.specs.Words.{Word}
use Rattle.cr_main_words.specs.declared.modes.Engine.{Engine}
use Rattle.cr_main_words.specs.declared.modes.Engine.TheVariants as engine
use Rattle.cr_main_words.specs.declared.modes.Modes.{Modes}

abbrev pub flag_words : List Word
flag_words = codes "--journal" ∷ codes "--resume" ∷ codes "--standing" ∷ codes "--any-order" ∷ []

-- a word that asks for a label begins so, and has the label behind it
abbrev pub is_labelled : Word → Bool
is_labelled word = bytes_eq (codes "--reached=") (take 10 word)

abbrev pub is_flag : Word → Bool
is_flag word = list_any (λ flag. bytes_eq word flag) flag_words || is_labelled word

abbrev pub is_end : Word → Bool
is_end word = bytes_eq word (codes "--")

-- the words before the first --, where alone a word may be a flag, and those from it on
abbrev pub in_front : List Word → List Word
in_front words = before_first is_end words

abbrev pub from_end : List Word → List Word
from_end words = drop (position_or_len is_end words) words

-- the words without the flags, which go wherever they stand, also where a value would
abbrev pub rest_of : List Word → List Word
rest_of words = filter (λ word. not (is_flag word)) (in_front words) ++ from_end words

-- how often a flag stands
abbrev pub times : Word → List Word → ℕ
times flag words = count_by (λ word. bytes_eq word flag) (in_front words)

abbrev pub is_journal : Engine → Bool
is_journal engine.Journal = true
is_journal _ = false

abbrev pub is_resume : Engine → Bool
is_resume engine.Resume = true
is_resume _ = false

abbrev pub is_standing : Engine → Bool
is_standing engine.Standing = true
is_standing _ = false

-- once where it is so, and else not at all
abbrev pub once_if : Bool → ℕ
once_if asked = cond asked 1 0

-- ---- the label

abbrev pub is_letter : ℕ → Bool
is_letter byte = (nat_le 97 byte && nat_le byte 122) || ((nat_le 65 byte && nat_le byte 90) || (byte == 95))

abbrev pub is_digit : ℕ → Bool
is_digit byte = nat_le 48 byte && nat_le byte 57

-- letters, digits and _, and no digit at first (C11 6.4.2.1)
abbrev pub is_identifier : Word → Bool
is_identifier [] = false
is_identifier (first ∷ more) = is_letter first && list_all (λ byte. is_letter byte || is_digit byte) more

-- how many words ask for a label, and what the first of them asks for
abbrev pub label_count : List Word → ℕ
label_count words = count_by is_labelled (in_front words)

abbrev pub first_label : List Word → Option Word
first_label words = option_map (λ word. drop 10 word) (slice_get (in_front words) (position_or_len is_labelled (in_front words)))

-- the words ask for this label, or for none: one word does at most, and the label is an identifier
abbrev pub GivesLabel : List Word → Option Word → Type 0
GivesLabel words None = label_count words ≡ 0
GivesLabel words (Some name) = (label_count words ≡ 1) × (first_label words ≡ Some name) × (is_identifier name ≡ true)

-- The words' flags ask for these modes: each stands once where its mode is asked for, and else not at all. There is one
-- engine, so the first three exclude one another.
pub record GivesModes (words : List Word) (modes : Modes) : Type 0 where
  pub journal : times (codes "--journal") words ≡ once_if (is_journal modes.engine)
  pub resume : times (codes "--resume") words ≡ once_if (is_resume modes.engine)
  pub standing : times (codes "--standing") words ≡ once_if (is_standing modes.engine)
  pub any_order : times (codes "--any-order") words ≡ once_if modes.any_order
  pub reached : GivesLabel words modes.reached

-- the modes of a list without flag
abbrev pub plain_modes : Modes
plain_modes = record { engine = engine.Plain; any_order = false; reached = None }

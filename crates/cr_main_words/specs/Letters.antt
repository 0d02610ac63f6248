-- The letters of the passes.
use Rattle.std.specs.Prelude.{◌≡◌, ℕ, ◌<◌, Bool, true, not, ◌&&◌, ◌==◌, List, [], ◌∷◌, codes, length, map}
use Rattle.std.specs.List.{list_all, list_any}
use Rattle.cr_main_words.specs.Words.{Word}

-- the passes, in the order in which they run
abbrev pub pass_letters : List ℕ
pass_letters = codes "ltbusciprfvo"

-- those that are on without the option: v and o are off unless asked for
abbrev pub plain_letters : List ℕ
plain_letters = codes "ltbusciprf"

abbrev pub has_letter : List ℕ → ℕ → Bool
has_letter word letter = list_any (λ x. x == letter) word

-- no letter stands twice
abbrev pub are_different : Word → Bool
are_different [] = true
are_different (letter ∷ more) = not (has_letter more letter) && are_different more

-- The word is one or more different letters of passes, in any order, and these passes are enabled.
pub record IsLetters (word : Word) (enabled : List Bool) : Type 0 where
  pub some : 0 < length word
  pub known : list_all (has_letter pass_letters) word ≡ true
  pub different : are_different word ≡ true
  pub is : enabled ≡ map (has_letter word) pass_letters

-- the values of the option: without it all passes but v and o are enabled, and it comes once at most
pub data IsEnabled : List Word → List Bool → Type 0 where
  plain_passes : IsEnabled [] (map (has_letter plain_letters) pass_letters)
  some_passes : {word : Word} {enabled : List Bool} → IsLetters word enabled → IsEnabled (word ∷ []) enabled

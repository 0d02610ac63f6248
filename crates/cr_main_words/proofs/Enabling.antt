-- The passes that a word of letters enables.
use Rattle.std.proofs.Common.{◌≡◌, Bool, List, [], ◌∷◌, subst}
use Rattle.cr_main_words.specs.Letters.{IsEnabled, IsLetters}
use Rattle.cr_main_words.specs.Letters.IsEnabled.{plain_passes, some_passes}
use Rattle.cr_main_words.specs.Words.{Word}

-- a word that enables none is no value of the option
pub none_enabled : (values : List Word) (word : Word) → values ≡ word ∷ [] → ((enabled : List Bool) → IsLetters word enabled → ⊥) → (enabled : List Bool) → IsEnabled values enabled → ⊥
none_enabled _ word is none _ plain_passes = cc
none_enabled _ word is none enabled (some_passes {word = other} it) = let same : other ≡ word = cc in none enabled (subst (λ w. IsLetters w enabled) same it)

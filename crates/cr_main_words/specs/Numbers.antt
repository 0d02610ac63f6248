-- The numbers of the command line.
use Rattle.std.specs.Prelude.{◌≡◌, ℕ, ◌<◌, ◌≤◌, List, [], ◌∷◌, length, Option, Some, None, unwrap_or}
use Rattle.std.specs.Str.Parse.{AllDigits, digits_value}
use Rattle.cr_main_words.specs.Words.{Word}

-- The word is 1 to 19 decimal digits, and they write this number, which is within the bounds.
pub record IsNumber (least most : ℕ) (word : Word) (n : ℕ) : Type 0 where
  pub digits : AllDigits 10 word
  pub some : 0 < length word
  pub short : length word ≤ 19
  pub is : n ≡ digits_value 10 word
  pub from : least ≤ n
  pub to : n ≤ most

-- the values of an option: there is none, or one that is such a number
pub data IsOptional (least most : ℕ) : List Word → Option ℕ → Type 0 where
  no_value : IsOptional least most [] None
  one_value : {word : Word} {n : ℕ} → IsNumber least most word n → IsOptional least most (word ∷ []) (Some n)

-- the same, with what stands without the option
abbrev pub IsNumberOr : ℕ → ℕ → ℕ → List Word → ℕ → Type 0
IsNumberOr without least most values n = (given : Option ℕ) × IsOptional least most values given × (n ≡ unwrap_or given without)

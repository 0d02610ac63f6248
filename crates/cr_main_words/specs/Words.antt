-- The words of the command line, told apart into options and positional words.
use Rattle.std.specs.Prelude.{◌≡◌, ◌⊎◌, ℕ, List, [], ◌∷◌, ◌++◌, codes, cond, map, String}
use Rattle.std.specs.Str.{bytes_eq}
use Rattle.std.specs.String.{string_bytes}
use Rattle.std.specs.Global.{Global}

abbrev pub Word : Type 0
Word = List ℕ

abbrev pub texts_of : List (String Global) → List Word
texts_of words = map string_bytes words

-- the word begins with this byte
abbrev pub BeginsWith : Word → ℕ → Type 0
BeginsWith word byte = (more : List ℕ) × (word ≡ byte ∷ more)

-- a word that begins with - and is longer than one byte
abbrev pub IsOption : Word → Type 0
IsOption word = (byte : ℕ) × (more : List ℕ) × (word ≡ 45 ∷ byte ∷ more)

-- the word is one of these
abbrev pub IsAmong : Word → List Word → Type 0
IsAmong word [] = ⊥
IsAmong word (other ∷ more) = (word ≡ other) ⊎ IsAmong word more

-- the names of the options
abbrev pub option_names : List Word
option_names = codes "workers" ∷ codes "window" ∷ codes "limit" ∷ codes "steps" ∷ codes "passes" ∷ []

-- what words say: an option's name and its value, or a positional word
pub data Said : Type 0 where
  option : Word → Word → Said
  place : Word → Said

-- What the words say, in their order, where the options have these names. Where a word is in none of these forms, there
-- is no such telling.
pub data Tells (names : List Word) : List Word → List Said → Type 0 where
  no_word : Tells names [] []
  -- after -- all words are positional
  dashes : {word : Word} {words : List Word} → word ≡ codes "--" → Tells names (word ∷ words) (map place words)
  -- --NAME=VALUE
  joined : {word : Word} {words : List Word} {said : List Said} (name value : Word) → IsAmong name names
      → word ≡ codes "--" ++ (name ++ (codes "=" ++ value)) → Tells names words said → Tells names (word ∷ words) (option name value ∷ said)
  -- --NAME and a value word, which doesn't begin with -
  apart : {word value : Word} {words : List Word} {said : List Said} (name : Word) → IsAmong name names
      → word ≡ codes "--" ++ name → (BeginsWith value 45 → ⊥) → Tells names words said
      → Tells names (word ∷ (value ∷ words)) (option name value ∷ said)
  stands : {word : Word} {words : List Word} {said : List Said} → (IsOption word → ⊥)
      → Tells names words said → Tells names (word ∷ words) (place word ∷ said)

-- the values of an option, in their order
abbrev pub values_of : Word → List Said → List Word
values_of name [] = []
values_of name (option other value ∷ said) = cond (bytes_eq other name) (value ∷ values_of name said) (values_of name said)
values_of name (place word ∷ said) = values_of name said

-- the positional words, in their order
abbrev pub places_of : List Said → List Word
places_of [] = []
places_of (option name value ∷ said) = places_of said
places_of (place word ∷ said) = word ∷ places_of said

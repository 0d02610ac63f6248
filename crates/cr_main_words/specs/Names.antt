-- The names of files.
use Rattle.std.specs.Prelude.{◌≡◌, ◌≢◌, ◌⊎◌, ℕ, ◌<◌, List, [], ◌∷◌, ◌++◌, codes, get_or, length}
use Rattle.std.specs.String.{string_bytes}
use Rattle.cr_main_words.specs.Numbers.{IsNumber}
use Rattle.cr_main_words.specs.Words.{Word}
use Rattle.cr_main_words.specs.declared.source.Source.{Source}
use Rattle.cr_main_words.specs.declared.source.Source.TheVariants as source

-- nothing, or what ends with /
abbrev pub EndsFolder : List ℕ → Type 0
EndsFolder front = (front ≡ []) ⊎ ((folder : List ℕ) × (front ≡ folder ++ 47 ∷ []))

-- The name ends with this part, behind nothing or behind a /.
pub record HasLastPart (name part : List ℕ) : Type 0 where
  pub front : List ℕ
  pub is : name ≡ front ++ part
  pub ends : EndsFolder front

-- a word that begins with gen:
abbrev pub IsMade : Word → Type 0
IsMade word = (rest : List ℕ) × (word ≡ codes "gen:" ++ rest)

-- A word that is no name of a file: a generated program, or a name whose part after the last / is empty, . or ..
pub data IsNoName (word : Word) : Type 0 where
  made : IsMade word → IsNoName word
  folder : HasLastPart word [] → IsNoName word
  here : HasLastPart word (codes ".") → IsNoName word
  above : HasLastPart word (codes "..") → IsNoName word

-- The word is gen:NUMBER:ITEMS.
pub record IsGenerated (word : Word) (number items : ℕ) : Type 0 where
  pub first : Word
  pub second : Word
  pub is : word ≡ codes "gen:" ++ (first ++ (codes ":" ++ second))
  pub is_number : IsNumber 0 2147483647 first number
  pub is_items : IsNumber 1 10000 second items

-- what a word asks for as the file: a file of this name, or a generated program
abbrev pub IsSource : Word → Source → Type 0
IsSource word (source.Named name) = (string_bytes name ≡ word) × (IsNoName word → ⊥)
IsSource word (source.Made number items) = IsGenerated word number items

-- the name of a source, as lines have it
abbrev pub name_of : Source → List ℕ
name_of (source.Named name) = string_bytes name
name_of (source.Made number items) = codes "gen.c"

-- no byte of it is /
abbrev pub NoSlash : List ℕ → Type 0
NoSlash part = (i : ℕ) → i < length part → get_or part i 0 ≢ 47

-- The file's own name, under which a test sees it: the part after the last /.
pub record IsOwnName (name own : List ℕ) : Type 0 where
  pub last : HasLastPart name own
  pub plain : NoSlash own

-- Unbroken runs of tokens.
use Rattle.std.specs.Prelude.{◌≡◌, ℕ, ◌≤◌, List, ◌++◌, map, length, take, drop, All, slice_range}
use Rattle.cr_tokens.specs.declared.token.Token.{Token}

-- the spellings of a file's tokens
abbrev pub spellings : List ℕ → List Token → List (List ℕ)
spellings file tokens = map (λ t. slice_range file t.start t.end) tokens

-- the spellings `wanted` stand in a row among the spellings `all`
abbrev pub StandsIn : List (List ℕ) → List (List ℕ) → Type 0
StandsIn wanted all = (before after : List (List ℕ)) × (all ≡ before ++ wanted ++ after)

-- the spellings `wanted` stand in a row among the spellings `all`, from place `first` on
abbrev pub StandsFrom : ℕ → List (List ℕ) → List (List ℕ) → Type 0
StandsFrom first wanted all = take (length wanted) (drop first all) ≡ wanted

-- the token's span lies within the file
abbrev pub IsWithin : List ℕ → Token → Type 0
IsWithin file t = (t.start ≤ t.end) × (t.end ≤ length file)

abbrev pub AllWithin : List ℕ → List Token → Type 0
AllWithin file tokens = All (IsWithin file) tokens

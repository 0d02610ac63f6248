-- Classes of bytes (C11 5.2.1), and what is said of the bytes at places of a file. A place is a number of
-- bytes before it. Past the end of a file a byte reads as 0, which stands in no class.
use Rattle.std.specs.Prelude.{◌≡◌, ℕ, ◌≤◌, ◌<◌, ◌⊎◌, List, Bool, nat_eq, ◌==◌, slice_index}
use Rattle.std.specs.List.{list_any}
use Rattle.std.specs.Cmp.Lexicographic.{pointwise}

-- a digit
abbrev pub IsDigit : ℕ → Type 0
IsDigit b = (48 ≤ b) × (b ≤ 57)

-- an octal digit
abbrev pub IsOctalDigit : ℕ → Type 0
IsOctalDigit b = (48 ≤ b) × (b ≤ 55)

-- a hexadecimal digit
abbrev pub IsHexDigit : ℕ → Type 0
IsHexDigit b = IsDigit b ⊎ ((65 ≤ b) × (b ≤ 70)) ⊎ ((97 ≤ b) × (b ≤ 102))

-- a letter or an underscore, C11's nondigit
abbrev pub IsNondigit : ℕ → Type 0
IsNondigit b = ((97 ≤ b) × (b ≤ 122)) ⊎ ((65 ≤ b) × (b ≤ 90)) ⊎ (b ≡ 95)

-- what an identifier is made of
abbrev pub IsWordByte : ℕ → Type 0
IsWordByte b = IsNondigit b ⊎ IsDigit b

-- white space: tab, LF, vertical tab, form feed, carriage return, and space
abbrev pub IsSpace : ℕ → Type 0
IsSpace b = ((9 ≤ b) × (b ≤ 13)) ⊎ (b ≡ 32)

-- a space or a tab
abbrev pub IsIndent : ℕ → Type 0
IsIndent b = (b ≡ 9) ⊎ (b ≡ 32)

-- each byte from place `from` to before place `to` is so
abbrev pub Each : (ℕ → Type 0) → List ℕ → ℕ → ℕ → Type 0
Each P file from to = (k : ℕ) → from ≤ k → k < to → P (slice_index file k)

-- the byte stands among the bytes
abbrev pub is_byte_of : List ℕ → ℕ → Bool
is_byte_of bytes b = list_any (λ c. c == b) bytes

-- the spelling stands in the table
abbrev pub is_among : List (List ℕ) → List ℕ → Bool
is_among table spelling = list_any (λ t. pointwise nat_eq t spelling) table

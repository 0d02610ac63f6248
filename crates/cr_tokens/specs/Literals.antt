-- Character constants (C11 6.4.4.4) and string literals (6.4.5), without trigraphs (5.2.1.1).
use Rattle.std.specs.Prelude.{◌≡◌, ◌≢◌, ℕ, suc, ◌+◌, ◌≤◌, ◌<◌, ◌⊎◌, List, codes, length, slice_index, slice_range, true}
use Rattle.cr_tokens.specs.Bytes.{IsOctalDigit, IsHexDigit, Each, is_byte_of}
use Rattle.cr_tokens.specs.Blanks.{IsSplice}
use Rattle.cr_tokens.specs.Numbers.{number_of}

-- what ends a trigraph
abbrev pub trigraph_ends : List ℕ
trigraph_ends = codes "=(/)'<!>-"

-- a trigraph begins at `at`: two question marks, and one of = ( / ) ' < ! > -
abbrev pub IsTrigraph : List ℕ → ℕ → Type 0
IsTrigraph file at =
    (slice_index file at ≡ 63) × (slice_index file (at + 1) ≡ 63)
    × (is_byte_of trigraph_ends (slice_index file (at + 2)) ≡ true)

-- what follows the backslash in a simple escape sequence
abbrev pub simple_escapes : List ℕ
simple_escapes = codes "'\"?\\abfnrtv"

-- the simple escape sequences: \' \" \? \\ \a \b \f \n \r \t \v
pub record IsSimpleEscape (file : List ℕ) (from to : ℕ) : Type 0 where
  pub letter : is_byte_of simple_escapes (slice_index file (from + 1)) ≡ true
  pub end : to ≡ from + 2

-- an octal escape sequence: the one to three octal digits that follow, of a value up to 255
pub record IsOctalEscape (file : List ℕ) (from to : ℕ) : Type 0 where
  pub some : from + 1 < to
  pub most : to ≤ from + 4
  pub digits : Each IsOctalDigit file (from + 1) to
  pub longest : to < from + 4 → ¬ IsOctalDigit (slice_index file to)
  pub small : number_of 8 (slice_range file (from + 1) to) ≤ 255

-- a hexadecimal escape sequence: x and all hexadecimal digits that follow, of a value up to 255
pub record IsHexEscape (file : List ℕ) (from to : ℕ) : Type 0 where
  pub letter : slice_index file (from + 1) ≡ 120
  pub some : from + 2 < to
  pub digits : Each IsHexDigit file (from + 2) to
  pub longest : ¬ IsHexDigit (slice_index file to)
  pub small : number_of 16 (slice_range file (from + 2) to) ≤ 255

-- the bytes from `from` to before `to` are an escape sequence
abbrev pub IsEscape : List ℕ → ℕ → ℕ → Type 0
IsEscape file from to =
    (slice_index file from ≡ 92) × (IsSimpleEscape file from to ⊎ IsOctalEscape file from to ⊎ IsHexEscape file from to)

-- a byte that stands for itself between the quotes `quote`: 32 to 126, in a string literal also from 128 on,
-- and neither the quote nor a backslash
pub record IsPlain (quote b : ℕ) : Type 0 where
  pub range : ((32 ≤ b) × (b ≤ 126)) ⊎ ((quote ≡ 34) × (128 ≤ b))
  pub no_quote : b ≢ quote
  pub no_backslash : b ≢ 92

-- the bytes from `from` to before `to` are a plain byte or an escape sequence
abbrev pub IsUnit : List ℕ → ℕ → ℕ → ℕ → Type 0
IsUnit file quote from to = (IsPlain quote (slice_index file from) × (to ≡ from + 1)) ⊎ IsEscape file from to

-- what no literal may hold begins at `at`: a trigraph, or a backslash directly before LF
abbrev pub IsBroken : List ℕ → ℕ → Type 0
IsBroken file at = IsTrigraph file at ⊎ IsSplice file at

-- and nothing broken begins in them: they are one character of a literal
pub record IsChar (file : List ℕ) (quote from to : ℕ) : Type 0 where
  pub unit : IsUnit file quote from to
  pub unbroken : (k : ℕ) → from ≤ k → k < to → ¬ IsBroken file k

-- the bytes from `from` to before `to` are `count` characters of a literal
pub data Chars (file : List ℕ) (quote : ℕ) : ℕ → ℕ → ℕ → Type 0 where
  none : {at : ℕ} → Chars file quote at at 0
  more : {from to after count : ℕ} →
      IsChar file quote from to → Chars file quote to after count → Chars file quote from after (suc count)

-- the characters of a literal end at `at`: there is a quote, the end of the line or the end of the file
abbrev pub EndsCharacters : List ℕ → ℕ → ℕ → Type 0
EndsCharacters file quote at = (length file ≤ at) ⊎ (slice_index file at ≡ quote) ⊎ (slice_index file at ≡ 10)

-- the bytes from `from` to before `to` are a quote, `count` characters, and the same quote
pub record IsLiteral (file : List ℕ) (quote from to count : ℕ) : Type 0 where
  pub open_quote : slice_index file from ≡ quote
  pub close : ℕ
  pub characters : Chars file quote (from + 1) close count
  pub close_quote : slice_index file close ≡ quote
  pub end : to ≡ close + 1

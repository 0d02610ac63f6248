-- What is looked at where two spellings meet.
use Rattle.std.specs.Prelude.{◌≡◌, ℕ, ◌+◌, ◌≤◌, ◌⊎◌, List, [], length, All, slice_index_or}
use Rattle.cr_tokens.specs.declared.token.Token.{Token}
use Rattle.cr_tokens.specs.declared.token.TokenKind.{TokenKind}
use Rattle.cr_tokens.specs.Tokens.{IsToken}
use Rattle.cr_tokens.specs.Places.{Rise, StaysApart}
use Rattle.cr_printer.specs.Pieces.{IsOneToken}

-- tokens of a file, each behind the one before
pub record AreInOrder (file : List ℕ) (tokens : List Token) : Type 0 where
  pub short : length file ≤ 1048576
  pub each : All (IsToken file) tokens
  pub rise : Rise 0 (length file) tokens

-- read by itself, the spelling is one token
abbrev pub IsSpelling : List ℕ → Type 0
IsSpelling s = (kind : TokenKind) × IsOneToken (record { kind = kind; spelling = s })

-- the spelling with number `at` needs no space before it: it's the first, or stays apart from the one before
abbrev pub NeedsNoSpace : List (List ℕ) → ℕ → Type 0
NeedsNoSpace spellings at =
    (at ≡ 0) ⊎ ((k : ℕ) × (at ≡ k + 1) × StaysApart (slice_index_or spellings k []) (slice_index_or spellings at []))

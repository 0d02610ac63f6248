-- Lines and places, and spellings side by side, for the crates above.
use Rattle.std.specs.Prelude.{ℕ, ◌+◌, ◌≤◌, ◌<◌, ◌==◌, List, [], ◌∷◌, ◌++◌, length, take, count_by}
use Rattle.cr_tokens.specs.declared.token.Token.{Token}
use Rattle.cr_tokens.specs.declared.token.TokenKind.{TokenKind}
use Rattle.cr_tokens.specs.Tokens.{Tokenizes}

-- the line on which a place stands: 1 plus the LF bytes before it
abbrev pub line_of : List ℕ → ℕ → ℕ
line_of file at = 1 + count_by (λ b. b == 10) (take at file)

-- the tokens' spans are not empty, rise from `from` on, and end by `to`
abbrev pub Rise : ℕ → ℕ → List Token → Type 0
Rise from to [] = from ≤ to
Rise from to (t ∷ ts) = (from ≤ t.start) × (t.start < t.end) × Rise t.end to ts

-- two spellings side by side are read as these two tokens
abbrev pub StaysApart : List ℕ → List ℕ → Type 0
StaysApart left right =
    (kind other : TokenKind) × Tokenizes (left ++ right)
    (record { kind = kind; start = 0; end = length left }
    ∷ record { kind = other; start = length left; end = length left + length right } ∷ [])

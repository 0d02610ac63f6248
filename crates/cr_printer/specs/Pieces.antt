-- Tokens apart from the file that they stand in.
use Rattle.std.specs.Prelude.{ℕ, List, [], ◌∷◌, map, length, codes, slice_range}
use Rattle.cr_tokens.specs.declared.token.Token.{Token}
use Rattle.cr_tokens.specs.declared.token.TokenKind.{TokenKind}
use Rattle.cr_tokens.specs.Tokens.{Tokenizes}
use Rattle.cr_tokens.specs.Runs.{StandsIn}

-- a token's kind and its spelling
pub record Piece : Type 0 where
  pub kind : TokenKind
  pub spelling : List ℕ

-- a file's tokens without their places
abbrev pub pieces_of : List ℕ → List Token → List Piece
pieces_of file tokens = map (λ t. record { kind = t.kind; spelling = slice_range file t.start t.end }) tokens

abbrev pub spellings_of : List Piece → List (List ℕ)
spellings_of pieces = map (λ p. p.spelling) pieces

-- read by itself, the spelling is one token of the kind
abbrev pub IsOneToken : Piece → Type 0
IsOneToken p = Tokenizes p.spelling (record { kind = p.kind; start = 0; end = length p.spelling } ∷ [])

abbrev pub dot : List ℕ
dot = codes "."

-- Three dots in a row stay apart two by two, and are read as one token where they stand side by side.
abbrev pub HasThreeDots : List (List ℕ) → Type 0
HasThreeDots spellings = StandsIn (dot ∷ dot ∷ dot ∷ []) spellings

-- The size of a file, by which a reduction measures it: its bytes, 8 for each token, and the tokens' weights.
use Rattle.std.specs.Prelude.{ℕ, ◌+◌, List, codes, length, nat_eq, sum_by, slice_range, if◌then◌else◌}
use Rattle.std.specs.Cmp.Lexicographic.{pointwise}
use Rattle.cr_tokens.specs.declared.token.Token.{Token}
use Rattle.cr_tokens.specs.declared.token.TokenKind.{TokenKind}
use Rattle.cr_tokens.specs.declared.token.TokenKind.TheVariants.{Keyword, Identifier, Integer, Character, Text, Punctuator}

-- the weight of a token of the kind with the spelling
abbrev pub weight_of : TokenKind → List ℕ → ℕ
weight_of Identifier spelling = 3
weight_of Integer spelling =
    if pointwise nat_eq (codes "0") spelling then 0 else (if pointwise nat_eq (codes "1") spelling then 1 else 2)
weight_of Character spelling = 2
weight_of Text spelling = 2
weight_of Keyword spelling = 0
weight_of Punctuator spelling = 0

-- what a token adds to the size
abbrev pub share_of : List ℕ → Token → ℕ
share_of file t = 8 + weight_of t.kind (slice_range file t.start t.end)

-- the size of a file with these tokens
abbrev pub size_of : List ℕ → List Token → ℕ
size_of file tokens = length file + sum_by (share_of file) tokens

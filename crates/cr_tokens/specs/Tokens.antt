-- The tokens of a file (C11 6.4): the file falls into tokens, each the longest that can stand at its place,
-- and into what may stand between tokens.
use Rattle.std.specs.Prelude.{◌≡◌, ℕ, ◌≤◌, ◌<◌, List, [], ◌∷◌, length, true, false, slice_range}
use Rattle.cr_tokens.specs.declared.token.Token.{Token}
use Rattle.cr_tokens.specs.declared.token.TokenKind.{TokenKind}
use Rattle.cr_tokens.specs.declared.token.TokenKind.TheVariants.{Keyword, Identifier, Integer, Character, Text, Punctuator}
use Rattle.cr_tokens.specs.Bytes.{is_among}
use Rattle.cr_tokens.specs.Words.{IsWord, keywords}
use Rattle.cr_tokens.specs.Numbers.{IsNumber, IsInteger}
use Rattle.cr_tokens.specs.Literals.{IsLiteral}
use Rattle.cr_tokens.specs.Punctuators.{IsPunctuator}
use Rattle.cr_tokens.specs.Blanks.{IsBlank, IsSplice, OpensComment}

-- the bytes from `from` to before `to` could be a token, before a number is asked to be an integer constant
-- and a character constant to have one character (a preprocessing token, 6.4p1)
pub data IsLexeme (file : List ℕ) (from to : ℕ) : Type 0 where
  word : IsWord file from to → IsLexeme file from to
  number : IsNumber file from to → IsLexeme file from to
  character : (count : ℕ) → IsLiteral file 39 from to count → IsLexeme file from to
  text : (count : ℕ) → IsLiteral file 34 from to count → IsLexeme file from to
  punctuator : IsPunctuator file from to → IsLexeme file from to

-- the bytes from `from` to before `to` spell a token of the kind
abbrev pub Spells : List ℕ → TokenKind → ℕ → ℕ → Type 0
Spells file Keyword from to = IsWord file from to × (is_among keywords (slice_range file from to) ≡ true)
Spells file Identifier from to = IsWord file from to × (is_among keywords (slice_range file from to) ≡ false)
Spells file Integer from to = IsNumber file from to × IsInteger (slice_range file from to)
Spells file Character from to = IsLiteral file 39 from to 1
Spells file Text from to = (count : ℕ) × IsLiteral file 34 from to count
Spells file Punctuator from to = IsPunctuator file from to

-- the token stands in the file: its bytes spell its kind, nothing longer could be a token at its start
-- (6.4p4), and neither a comment nor a spliced line begins there
pub record IsToken (file : List ℕ) (token : Token) : Type 0 where
  pub not_empty : token.start < token.end
  pub inside : token.end ≤ length file
  pub spells : Spells file token.kind token.start token.end
  pub longest : (to : ℕ) → token.end < to → to ≤ length file → ¬ IsLexeme file token.start to
  pub no_comment : ¬ OpensComment file token.start
  pub no_splice : ¬ IsSplice file token.start

-- the bytes from `from` to before `to` fall into the tokens, in order, and blanks
pub data FallsInto (file : List ℕ) : ℕ → ℕ → List Token → Type 0 where
  nothing : {at : ℕ} → FallsInto file at at []
  blank : {from to after : ℕ} {tokens : List Token} →
      IsBlank file from to → FallsInto file to after tokens → FallsInto file from after tokens
  token : {from after : ℕ} {tokens : List Token} (t : Token) →
      t.start ≡ from → IsToken file t → FallsInto file t.end after tokens → FallsInto file from after (t ∷ tokens)

-- `tokens` are the tokens of `file`, which has at most 1,048,576 bytes and 262,144 tokens
pub record Tokenizes (file : List ℕ) (tokens : List Token) : Type 0 where
  pub short : length file ≤ 1048576
  pub few : length tokens ≤ 262144
  pub falls : FallsInto file 0 (length file) tokens

-- the file has tokens, or has none
abbrev pub HasTokens : List ℕ → Type 0
HasTokens file = (tokens : List Token) × Tokenizes file tokens

abbrev pub HasNoTokens : List ℕ → Type 0
HasNoTokens file = (tokens : List Token) → ¬ Tokenizes file tokens

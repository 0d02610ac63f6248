-- What a token is to the grammar: the keywords of C11 6.4.1 and the punctuators of 6.4.6, the commonest first. No spelling stands twice, so the order tells nothing.
use Rattle.std.specs.Prelude.{◌≡◌, ℕ, ◌≤◌, List, [], ◌∷◌, Option, None, Some, length, map, codes, if◌then◌else◌, slice_get, slice_range}
use Rattle.std.specs.Str.{bytes_eq}
use Rattle.std.specs.Borrow.{Bor}
use Rattle.cr_tokens.specs.declared.token.Token.{Token}
use Rattle.cr_tokens.specs.declared.token.TokenKind.{TokenKind}
use Rattle.cr_tokens.specs.declared.token.TokenKind.TheVariants as kind
use Rattle.cr_syntax.specs.declared.word.Word.{Word}
use Rattle.cr_syntax.specs.declared.word.Word.TheVariants as word

-- a spelling and its word
abbrev pub Entry : Type 0
Entry = List ℕ × Word

abbrev pub entry : List ℕ → Word → Entry
entry s w = (s, w)

-- 6.4.1
abbrev pub keyword_table : List Entry
keyword_table =
    entry (codes "int") word.Int ∷
    entry (codes "return") word.Return ∷
    entry (codes "if") word.If ∷
    entry (codes "static") word.Static ∷
    entry (codes "const") word.Const ∷
    entry (codes "unsigned") word.Unsigned ∷
    entry (codes "char") word.Char ∷
    entry (codes "long") word.Long ∷
    entry (codes "short") word.Short ∷
    entry (codes "void") word.Void ∷
    entry (codes "struct") word.Struct ∷
    entry (codes "for") word.For ∷
    entry (codes "while") word.While ∷
    entry (codes "else") word.Else ∷
    entry (codes "volatile") word.Volatile ∷
    entry (codes "signed") word.Signed ∷
    entry (codes "sizeof") word.Sizeof ∷
    entry (codes "goto") word.Goto ∷
    entry (codes "break") word.Break ∷
    entry (codes "case") word.Case ∷
    entry (codes "default") word.Default ∷
    entry (codes "switch") word.Switch ∷
    entry (codes "do") word.Do ∷
    entry (codes "enum") word.Enum ∷
    entry (codes "typedef") word.Typedef ∷
    entry (codes "continue") word.Continue ∷
    entry (codes "union") word.Union ∷
    entry (codes "extern") word.Extern ∷
    entry (codes "auto") word.Auto ∷
    entry (codes "double") word.Double ∷
    entry (codes "float") word.Float ∷
    entry (codes "inline") word.Inline ∷
    entry (codes "register") word.Register ∷
    entry (codes "restrict") word.Restrict ∷
    entry (codes "_Bool") word.Bool ∷
    entry (codes "_Alignas") word.Alignas ∷
    entry (codes "_Alignof") word.Alignof ∷
    entry (codes "_Atomic") word.Atomic ∷
    entry (codes "_Complex") word.Complex ∷
    entry (codes "_Generic") word.Generic ∷
    entry (codes "_Imaginary") word.Imaginary ∷
    entry (codes "_Noreturn") word.Noreturn ∷
    entry (codes "_Static_assert") word.StaticAssert ∷
    entry (codes "_Thread_local") word.ThreadLocal ∷
    []

-- 6.4.6
abbrev pub punctuator_table : List Entry
punctuator_table =
    entry (codes ";") word.Semicolon ∷
    entry (codes ",") word.Comma ∷
    entry (codes "(") word.LeftParen ∷
    entry (codes ")") word.RightParen ∷
    entry (codes "=") word.Equal ∷
    entry (codes "{") word.LeftBrace ∷
    entry (codes "}") word.RightBrace ∷
    entry (codes "*") word.Star ∷
    entry (codes "[") word.LeftBracket ∷
    entry (codes "]") word.RightBracket ∷
    entry (codes "+") word.Plus ∷
    entry (codes "-") word.Minus ∷
    entry (codes "&") word.Ampersand ∷
    entry (codes "<") word.Less ∷
    entry (codes ".") word.Dot ∷
    entry (codes "->") word.Arrow ∷
    entry (codes ">") word.Greater ∷
    entry (codes "==") word.EqualEqual ∷
    entry (codes "!=") word.BangEqual ∷
    entry (codes "!") word.Bang ∷
    entry (codes "<=") word.LessEqual ∷
    entry (codes ">=") word.GreaterEqual ∷
    entry (codes "++") word.PlusPlus ∷
    entry (codes "--") word.MinusMinus ∷
    entry (codes "&&") word.AndAnd ∷
    entry (codes "||") word.BarBar ∷
    entry (codes "?") word.Question ∷
    entry (codes ":") word.Colon ∷
    entry (codes "/") word.Slash ∷
    entry (codes "%") word.Percent ∷
    entry (codes "<<") word.LessLess ∷
    entry (codes ">>") word.GreaterGreater ∷
    entry (codes "|") word.Bar ∷
    entry (codes "^") word.Caret ∷
    entry (codes "~") word.Tilde ∷
    entry (codes "+=") word.PlusEqual ∷
    entry (codes "-=") word.MinusEqual ∷
    entry (codes "*=") word.StarEqual ∷
    entry (codes "&=") word.AmpersandEqual ∷
    entry (codes "|=") word.BarEqual ∷
    entry (codes "^=") word.CaretEqual ∷
    entry (codes "<<=") word.LessLessEqual ∷
    entry (codes ">>=") word.GreaterGreaterEqual ∷
    entry (codes "/=") word.SlashEqual ∷
    entry (codes "%=") word.PercentEqual ∷
    entry (codes "...") word.Ellipsis ∷
    []

-- a table as the program has it
abbrev pub entries_of : List (Bor (List ℕ) × Word) → List Entry
entries_of = map (λ e. (e.0.now, e.1))

-- the word that the first entry of this spelling gives; a spelling without entry counts as an identifier
abbrev pub word_in : List Entry → List ℕ → Word
word_in [] s = word.Identifier
word_in (e ∷ es) s = if bytes_eq e.0 s then e.1 else word_in es s

-- the word of a token, from its kind and its bytes
abbrev pub word_of : TokenKind → List ℕ → Word
word_of kind.Keyword s = word_in keyword_table s
word_of kind.Identifier s = word.Identifier
word_of kind.Integer s = word.Integer
word_of kind.Character s = word.Character
word_of kind.Text s = word.Text
word_of kind.Punctuator s = word_in punctuator_table s

-- a token as the grammar sees it
pub record Lexeme : Type 0 where
  pub word : Word
  pub spelling : List ℕ

abbrev pub lexeme_of : List ℕ → Token → Lexeme
lexeme_of file t = let s = slice_range file t.start t.end in record { word = word_of t.kind s; spelling = s }

-- the tokens of a file as the grammar sees them
abbrev pub lexemes_of : List ℕ → List Token → List Lexeme
lexemes_of file tokens = map (lexeme_of file) tokens

-- the word of the token with number i, where there is one
abbrev pub word_at : List Lexeme → ℕ → Option Word
word_at ts i = elim (slice_get ts i) [ None ↦ None | Some t ↦ Some t.word ]

-- the bytes of the token with number i
abbrev pub spelling_at : List Lexeme → ℕ → List ℕ
spelling_at ts i = elim (slice_get ts i) [ None ↦ [] | Some t ↦ t.spelling ]

-- each token's bytes are some of the file's
abbrev pub AreSpans : List ℕ → List Token → Type 0
AreSpans file tokens = (k : ℕ) (t : Token) → slice_get tokens k ≡ Some t → (t.start ≤ t.end) × (t.end ≤ length file)

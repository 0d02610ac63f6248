-- What is read: the tokens of a file, as the grammar sees them.
use Rattle.std.specs.Prelude.{◌≡◌, ℕ, ◌<◌, ◌^◌, List, length, map}
use Rattle.cr_tokens.specs.declared.token.Token.{Token}
use Rattle.cr_syntax.specs.declared.word.Word.{Word}
use Rattle.cr_syntax.specs.Words.{Lexeme, lexemes_of, AreSpans}
use Rattle.cr_exprs_descent.specs.declared.source.Source.{Source}

-- what each token of a file is to the grammar
abbrev pub words_in : List ℕ → List Token → List Word
words_in file tokens = map (λ l. l.word) (lexemes_of file tokens)

abbrev pub text_of : Source → List Lexeme
text_of s = lexemes_of s.file.now s.tokens.now

-- a source whose tokens are of its file, and whose words are those of its tokens
pub record IsReadable (s : Source) : Type 0 where
  pub spans : AreSpans s.file.now s.tokens.now
  pub words : s.words.now ≡ words_in s.file.now s.tokens.now
  pub few : length s.tokens.now < 2 ^ 32

-- A text of C, and the files that contain it.
use Rattle.std.specs.Prelude.{◌≢◌, ℕ, Bool, true, false, List, []}
use Rattle.cr_tokens.specs.declared.token.Token.{Token}
use Rattle.cr_tokens.specs.Tokens.{Tokenizes}
use Rattle.cr_tokens.specs.Runs.{spellings, StandsIn}

-- The file tokenises, and the spellings of the text's tokens stand in a row among its own.
pub record HasText (text file : List ℕ) : Type 0 where
  pub wanted : List Token
  pub tokens : List Token
  pub is_text : Tokenizes text wanted
  pub is_file : Tokenizes file tokens
  pub stands : StandsIn (spellings text wanted) (spellings file tokens)

-- the told answer of the question whether a file contains a text
abbrev pub TellsText : List ℕ → List ℕ → Bool → Type 0
TellsText text file true = HasText text file
TellsText text file false = HasText text file → ⊥

-- A text that a question may be about: it tokenises, and has a token.
pub record IsText (text : List ℕ) : Type 0 where
  pub tokens : List Token
  pub tokenizes : Tokenizes text tokens
  pub some : tokens ≢ []

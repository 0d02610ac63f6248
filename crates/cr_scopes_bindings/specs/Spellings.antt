-- The spellings of a unit's tokens, as numbers.
use Rattle.std.specs.Prelude.{◌≡◌, ℕ, List, length}
use Rattle.cr_tokens.specs.declared.token.Token.{Token}
use Rattle.cr_scopes.specs.Spelled.{name_of}
use Rattle.cr_scopes.specs.States.{name_in}

-- each token has the number of the first one that is spelled like it
pub record AreSpellings (file : List ℕ) (tokens : List Token) (spellings : List ℕ) : Type 0 where
  pub count : length spellings ≡ length tokens
  pub each : (token : ℕ) → name_in spellings token ≡ name_of file tokens token

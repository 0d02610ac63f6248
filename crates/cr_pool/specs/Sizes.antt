-- The measure: the size of a file, by its tokens.
use Rattle.std.specs.Prelude.{◌≡◌, ℕ, ◌<◌, ◌≤◌, List}
use Rattle.cr_tokens.specs.declared.token.Token.{Token}
use Rattle.cr_tokens.specs.Tokens.{Tokenizes}
use Rattle.cr_tokens.specs.Size.{size_of}

-- The file tokenises, and has this size. A file that doesn't tokenise has no size.
pub record HasSize (file : List ℕ) (size : ℕ) : Type 0 where
  pub tokens : List Token
  pub tokenizes : Tokenizes file tokens
  pub is : size ≡ size_of file tokens

-- Both files have a size, and the first one's is less.
pub record IsSmaller (new old : List ℕ) : Type 0 where
  pub new_size : ℕ
  pub old_size : ℕ
  pub new_is : HasSize new new_size
  pub old_is : HasSize old old_size
  pub less : new_size < old_size

-- The file has this size, which is at most 12 for each byte of the longest file.
pub record IsMeasured (file : List ℕ) (size : ℕ) : Type 0 where
  pub has : HasSize file size
  pub small : size ≤ 12582912

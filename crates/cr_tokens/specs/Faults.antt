-- Why a file has no tokens: the first place at which neither a token nor a blank stands, and what is wrong
-- there.
use Rattle.std.specs.Prelude.{◌≡◌, ◌≢◌, ℕ, ◌+◌, ◌≤◌, ◌<◌, ◌⊎◌, List, length, slice_index}
use Rattle.cr_tokens.specs.declared.token.Token.{Token}
use Rattle.cr_tokens.specs.declared.token.TokenFault.{TokenFault}
use Rattle.cr_tokens.specs.declared.token.TokenFault.TheVariants.{TooLong, BadByte, OpenComment, OpenLiteral, TooMany}
use Rattle.cr_tokens.specs.Literals.{Chars, IsUnit, IsBroken}
use Rattle.cr_tokens.specs.Blanks.{IsBlank, IsComment, IsSplice, OpensBlock, OpensComment, ClosesBlock}
use Rattle.cr_tokens.specs.Tokens.{IsToken, FallsInto}

-- `quote` is ' or "
abbrev pub IsQuote : ℕ → Type 0
IsQuote quote = (quote ≡ 39) ⊎ (quote ≡ 34)

-- `bad` is the first place at which a comment has a spliced line
pub record IsSplicedComment (file : List ℕ) (at bad : ℕ) : Type 0 where
  pub to : ℕ
  pub comment : IsComment file at to
  pub after : at ≤ bad
  pub inside : bad < to
  pub spliced : IsSplice file bad
  pub first : (k : ℕ) → at ≤ k → k < bad → ¬ IsSplice file k

-- in a literal between the quotes `quote` no character stands at `at`, and `bad` is the first place that is
-- wrong: `at` itself where there is no plain byte and no escape sequence, else where a trigraph or a spliced
-- line begins in it
pub data IsBadChar (file : List ℕ) (quote at bad : ℕ) : Type 0 where
  no_unit : at < length file → slice_index file at ≢ quote → slice_index file at ≢ 10 →
      ((to : ℕ) → ¬ IsUnit file quote at to) → bad ≡ at → IsBadChar file quote at bad
  broken : (to : ℕ) → IsUnit file quote at to → at ≤ bad → bad < to → IsBroken file bad →
      ((k : ℕ) → at ≤ k → k < bad → ¬ IsBroken file k) → IsBadChar file quote at bad

-- the fault is a bad character, after the characters that stand from `from` on
abbrev pub IsBadAmong : List ℕ → ℕ → ℕ → TokenFault → Type 0
IsBadAmong file quote from fault =
    (to count bad : ℕ) × (fault ≡ BadByte bad) × Chars file quote from to count × IsBadChar file quote to bad

-- the line or the file ends at `at`
abbrev pub IsLineEnd : List ℕ → ℕ → Type 0
IsLineEnd file at = (length file ≤ at) ⊎ (slice_index file at ≡ 10)

-- neither a token nor a blank stands at `at`, and this is why
pub data FaultAt (file : List ℕ) (at : ℕ) : TokenFault → Type 0 where
  -- nothing begins there
  no_token : at < length file → ¬ OpensComment file at → ¬ IsQuote (slice_index file at) →
      ((to : ℕ) → ¬ IsBlank file at to) → ((t : Token) → t.start ≡ at → ¬ IsToken file t) →
      FaultAt file at (BadByte at)
  -- a comment without its end
  open_comment : OpensBlock file at → ((k : ℕ) → at + 2 ≤ k → ¬ ClosesBlock file k) → FaultAt file at (OpenComment at)
  -- a spliced line in a comment
  spliced : {bad : ℕ} → IsSplicedComment file at bad → FaultAt file at (BadByte bad)
  -- in a literal: a byte or an escape sequence that may not stand there, a trigraph, or a spliced line
  bad_char : {bad : ℕ} (quote to count : ℕ) → IsQuote quote → slice_index file at ≡ quote →
      Chars file quote (at + 1) to count → IsBadChar file quote to bad → FaultAt file at (BadByte bad)
  -- a literal without its closing quote
  open_literal : (quote to count : ℕ) → IsQuote quote → slice_index file at ≡ quote →
      Chars file quote (at + 1) to count → IsLineEnd file to → FaultAt file at (OpenLiteral at)
  -- a character constant of no character, or of more than one
  wrong_count : (to count : ℕ) → slice_index file at ≡ 39 →
      Chars file 39 (at + 1) to count → slice_index file to ≡ 39 → count ≢ 1 → FaultAt file at (BadByte at)

-- the file's first fault: its length before all else, else the first place at which neither a token nor a
-- blank stands, or the start of the 262,145th token where that stands before it
pub data FirstTokenFault (file : List ℕ) : TokenFault → Type 0 where
  too_long : 1048576 < length file → FirstTokenFault file TooLong
  first : {fault : TokenFault} (at : ℕ) (tokens : List Token) → length file ≤ 1048576 →
      FallsInto file 0 at tokens → length tokens ≤ 262144 → FaultAt file at fault → FirstTokenFault file fault
  too_many : (t : Token) (tokens : List Token) → length file ≤ 1048576 →
      FallsInto file 0 t.start tokens → length tokens ≡ 262144 → IsToken file t → FirstTokenFault file (TooMany t.start)

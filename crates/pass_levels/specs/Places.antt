-- Ranges of tokens, and edits that take them away.
use Rattle.std.specs.Prelude.{ℕ, ◌+◌, ◌-◌, ◌==◌, nat_le, List, slice_index_or, slice_range, if◌then◌else◌}
use Rattle.cr_tokens.specs.declared.token.Token.{Token}
use Rattle.cr_tokens.specs.declared.token.TokenKind.TheVariants.{Punctuator}
use Rattle.pass_edit.specs.declared.change.Change.{Change}
use Rattle.pass_edit.specs.declared.change.Text.{Text}
use Rattle.pass_edit.specs.declared.change.Text.TheVariants.{Nothing}

-- the token of a number; one that isn't there has no bytes, and stands at the front
abbrev pub token_at : List Token → ℕ → Token
token_at tokens at = slice_index_or tokens at (record { kind = Punctuator; start = 0; end = 0 })

-- the bytes that spell the token of a number; one that isn't there has none
abbrev pub spelling_at : List ℕ → List Token → ℕ → List ℕ
spelling_at file tokens at = slice_range file (token_at tokens at).start (token_at tokens at).end

-- the text comes in the place of the tokens from first to last
abbrev pub replaced : List Token → ℕ → ℕ → Text → Change
replaced tokens first last text = record { start = (token_at tokens first).start; end = (token_at tokens last).end; text = text }

-- the tokens from first to last go
abbrev pub gone : List Token → ℕ → ℕ → Change
gone tokens first last = replaced tokens first last Nothing

-- Part `at` of `count` parts that commas separate, from first to last: with the comma after it, or, where it is the last of several, with
-- the one before it.
abbrev pub with_comma : List Token → ℕ → ℕ → ℕ → ℕ → Change
with_comma tokens at count first last = if nat_le count 1 then gone tokens first last
    else if at + 1 == count then gone tokens (first - 1) last
    else gone tokens first (last + 1)

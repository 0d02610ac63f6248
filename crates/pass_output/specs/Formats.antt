-- Formats: literals that calls of `printf` print by (C11 7.21.6.3).
use Rattle.std.specs.Prelude.{ℕ, ◌+◌, ◌==◌, Bool, List, Option, None, Some, codes, slice_get, if◌then◌else◌}
use Rattle.std.specs.Str.{bytes_eq}
use Rattle.cr_tokens.specs.declared.token.Token.{Token}
use Rattle.cr_syntax.specs.declared.node.Kind.{Kind}
use Rattle.cr_syntax.specs.declared.node.Kind.TheVariants as kind
use Rattle.cr_syntax.specs.declared.node.Node.{Node}
use Rattle.pass_edit.specs.declared.change.Change.{Change}
use Rattle.pass_edit.specs.declared.change.Text.{Text}
use Rattle.pass_levels.specs.declared.counted.Counted.{Counted}
use Rattle.pass_levels.specs.Nodes.{node_at}
use Rattle.pass_levels.specs.Places.{spelling_at, token_at}
use Rattle.pass_output.specs.declared.conversions.Conversion.{Conversion}
use Rattle.pass_output.specs.declared.known.Known.{Known}
use Rattle.pass_output.specs.Conversions.{conversions_of}

-- What is known of a file: its tokens and its nodes.
pub record Facts : Type 0 where
  pub file : List ℕ
  pub tokens : List Token
  pub nodes : List Node

abbrev pub facts_of : Known → Facts
facts_of known = record { file = known.file.now; tokens = known.tokens.now; nodes = known.nodes.now }

abbrev pub is_printf : List ℕ → Bool
is_printf text = bytes_eq text (codes "printf")

-- the token of a string literal that is one token
abbrev pub literal_by : Kind → Node → Option ℕ
literal_by kind.Text n = if n.first == n.last then Some n.first else None
literal_by _ n = None

abbrev pub literal_of : List Node → Option ℕ → Option ℕ
literal_of nodes None = None
literal_of nodes (Some part) = literal_by (node_at nodes part).kind (node_at nodes part)

-- the format of a call of `printf`: its first argument, where that is one literal
abbrev pub format_by : Kind → Facts → Node → Option ℕ
format_by kind.Call f n = if is_printf (spelling_at f.file f.tokens n.first) then literal_of f.nodes (slice_get n.parts 0) else None
format_by _ f n = None

abbrev pub format_at : Facts → ℕ → Option ℕ
format_at f k = format_by (node_at f.nodes k).kind f (node_at f.nodes k)

-- a text comes in the place of a token's bytes from one on to before another
abbrev pub within : List Token → ℕ → ℕ → ℕ → Text → Change
within tokens token from to text = record { start = (token_at tokens token).start + from; end = (token_at tokens token).start + to; text = text }

-- an edit of a call, counted by its tokens
abbrev pub counted_by : Node → List Change → Counted
counted_by n edit = record { first = n.first; last = n.last; edit = edit }

-- the conversions of a format
abbrev pub conversions_in : Facts → ℕ → List Conversion
conversions_in f token = conversions_of (spelling_at f.file f.tokens token)

-- A law of typedef names.
use Rattle.std.specs.Prelude.{◌≡◌, ℕ, Bool, true, List, length}
use Rattle.cr_tokens.specs.declared.token.Token.{Token}
use Rattle.cr_syntax.specs.declared.node.Node.{Node}
use Rattle.cr_syntax.specs.Words.{Lexeme, spelling_at}
use Rattle.cr_syntax.specs.Scopes.{is_type}
use Rattle.cr_syntax.specs.Kept.{PartsAreBelow, ItemsAreNodes, row_in}
use Rattle.cr_syntax.specs.Spells.{Limit}
use Rattle.cr_syntax.specs.Units.{IsUnit}
use Rattle.cr_scopes_events.specs.Events.{events_of}
use Rattle.cr_scopes.specs.Resolved.{past_of}
use Rattle.cr_scopes_bindings.specs.Visible.{is_named}
use Rattle.cr_scopes_typedef_names.specs.Effects.Effects.{scopes_at}
use Rattle.cr_scopes_typedef_names.specs.Parsed.Apart.{AreApart, ParametersAreNone}

-- Of a unit's tokens those of typedef names that stand apart are types where they are named first (6.7.8p3).
abbrev pub TypedefNamesAreTypes : Type 0
TypedefNamesAreTypes = (ts : List Lexeme) (limit : Limit) (tokens : List Token) (nodes : List Node) (items : List ℕ) (typed : ℕ → Bool)
    → PartsAreBelow nodes → ItemsAreNodes nodes items → IsUnit limit ts (row_in nodes items) → AreApart nodes typed → ParametersAreNone nodes
    → (token : ℕ) → typed token ≡ true → is_named token (past_of (events_of tokens nodes items) (length (events_of tokens nodes items))) ≡ true
    → is_type (scopes_at (spelling_at ts) (past_of (events_of tokens nodes items) (length (events_of tokens nodes items))) token) (spelling_at ts token) ≡ true

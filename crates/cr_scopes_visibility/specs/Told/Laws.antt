-- A law of the uses of names.
use Rattle.std.specs.Prelude.{◌≡◌, ℕ, true, List, Some, length, slice_get}
use Rattle.cr_tokens.specs.declared.token.Token.{Token}
use Rattle.cr_syntax.specs.declared.node.Node.{Node}
use Rattle.cr_syntax_order.specs.Listed.{AreListed}
use Rattle.cr_scopes_events.specs.Events.{events_of}
use Rattle.cr_scopes.specs.Resolved.{past_of}
use Rattle.cr_scopes_visibility.specs.Sight.Scopes.{is_using}
use Rattle.cr_scopes_visibility.specs.Told.Told.{IsTold, AreApart}

-- each node that uses a name is told so, and what is declared before it is told stands below it (6.2.1p7)
abbrev pub UsesAreTold : Type 0
UsesAreTold = (tokens : List Token) (nodes : List Node) (items : List ℕ) → AreListed nodes 0 items (length nodes) → AreApart nodes → (i : ℕ) (n : Node) → slice_get nodes i ≡ Some n
    → is_using n.kind ≡ true → IsTold nodes n.first i (past_of (events_of tokens nodes items) (length (events_of tokens nodes items)))

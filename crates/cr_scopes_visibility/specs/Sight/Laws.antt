-- A law of scopes.
use Rattle.std.specs.Prelude.{◌≡◌, ℕ, true, Bool, List, Some, length, slice_get}
use Rattle.cr_tokens.specs.declared.token.Token.{Token}
use Rattle.cr_syntax.specs.declared.node.Node.{Node}
use Rattle.cr_scopes_events.specs.Events.{events_of}
use Rattle.cr_scopes.specs.Resolved.{past_of}
use Rattle.cr_scopes_visibility.specs.Alone.Sight.{IsSeen}
use Rattle.cr_scopes_visibility.specs.Sight.Scopes.{is_blocklike, AreUnder, AreOrderly, IsApart}

-- what is declared under a block or a `for` alone isn't in scope where a name is used that doesn't stand there (6.2.1p4)
abbrev pub ScopesAreClosed : Type 0
ScopesAreClosed = (tokens : List Token) (nodes : List Node) (items : List ℕ) (name : ℕ → ℕ) (holder : ℕ) (hold : Node) (under : ℕ → Bool) (token site : ℕ)
    → slice_get nodes holder ≡ Some hold → is_blocklike hold.kind ≡ true → AreOrderly nodes → AreUnder nodes items holder under → IsApart nodes under token site
    → IsSeen name token site (past_of (events_of tokens nodes items) (length (events_of tokens nodes items))) → ⊥

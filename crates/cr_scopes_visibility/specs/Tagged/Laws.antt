-- Laws of tags.
use Rattle.std.specs.Prelude.{◌≡◌, ℕ, List, Some, length}
use Rattle.cr_tokens.specs.declared.token.Token.{Token}
use Rattle.cr_syntax.specs.declared.node.Node.{Node}
use Rattle.cr_syntax_order.specs.Listed.{AreListed}
use Rattle.cr_scopes_events.specs.Events.{events_of}
use Rattle.cr_scopes.specs.Resolved.{past_of}
use Rattle.cr_scopes_bindings.specs.Nodes.{tag_at}
use Rattle.cr_scopes_visibility.specs.Tagged.Tagged.{AreTagsApart, StandsForTag, AreMarked}

-- each tag stands for one that declares itself, after all events (6.7.2.3)
abbrev pub TagsStandForTags : Type 0
TagsStandForTags = (tokens : List Token) (nodes : List Node) (items : List ℕ) (name : ℕ → ℕ) → AreListed nodes 0 items (length nodes) → AreTagsApart tokens nodes
    → (j token : ℕ) → tag_at nodes tokens j ≡ Some token → StandsForTag tokens nodes name token (past_of (events_of tokens nodes items) (length (events_of tokens nodes items)))

-- and nodes tell as tags what is their tag, and nothing else
abbrev pub TagsAreMarked : Type 0
TagsAreMarked = (tokens : List Token) (nodes : List Node) (items : List ℕ) → AreListed nodes 0 items (length nodes) → AreTagsApart tokens nodes
    → AreMarked tokens nodes (past_of (events_of tokens nodes items) (length (events_of tokens nodes items)))

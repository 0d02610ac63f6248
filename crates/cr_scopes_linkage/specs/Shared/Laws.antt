-- Laws of the tokens that declare one entity, and of the events of a unit.
use Rattle.std.specs.Prelude.{◌≡◌, ℕ, ◌<◌, List, Some, length}
use Rattle.cr_tokens.specs.declared.token.Token.{Token}
use Rattle.cr_syntax.specs.declared.node.Node.{Node}
use Rattle.cr_scopes_events.specs.declared.event.Event.{Event}
use Rattle.cr_scopes_events.specs.Events.{events_of}
use Rattle.cr_scopes.specs.declared.names.Names.{Names}
use Rattle.cr_scopes.specs.Faults.{is_typedef}
use Rattle.cr_scopes.specs.Resolved.{AreResolved, past_of}
use Rattle.cr_scopes_bindings.specs.Entities.{declared_entity}
use Rattle.cr_scopes_visibility.specs.Alone.Alone.{IsAlone}
use Rattle.cr_scopes_linkage.specs.Shared.Sorts.{is_value, is_tag, Never, IsOfOneSort}
use Rattle.cr_scopes_linkage.specs.Shared.Origins.{AreTold}

-- where no name is at fault, no other token declares the entity of an identifier without linkage (6.2.2p6, 6.7p3)
abbrev pub AloneIsOnly : Type 0
AloneIsOnly = (name : ℕ → ℕ) (events : List Event) (tokens : ℕ) (names : Names) (token other k : ℕ) → AreResolved name events tokens names → token < tokens → other < tokens
    → IsAlone token (past_of events (length events)) → declared_entity names token ≡ Some k → declared_entity names other ≡ Some k → other ≡ token

-- two tokens that declare one entity are one, where one is no object or function, and the other no type and no tag
abbrev pub SortsAreApart : Type 0
SortsAreApart = (name : ℕ → ℕ) (events : List Event) (tokens : ℕ) (names : Names) (one other k : ℕ) → AreResolved name events tokens names → one < tokens → other < tokens
    → declared_entity names one ≡ Some k → declared_entity names other ≡ Some k → Never is_value one (past_of events (length events))
    → Never is_typedef other (past_of events (length events)) → Never is_tag other (past_of events (length events))
    → ((t : ℕ) → IsOfOneSort t (past_of events (length events))) → one ≡ other

-- what the events of a unit tell is told by its nodes
abbrev pub EventsHaveOrigins : Type 0
EventsHaveOrigins = (tokens : List Token) (nodes : List Node) (items : List ℕ) → AreTold nodes (past_of (events_of tokens nodes items) (length (events_of tokens nodes items)))

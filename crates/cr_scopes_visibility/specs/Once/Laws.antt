-- Laws of names that are told once.
use Rattle.std.specs.Prelude.{◌≡◌, ℕ, ◌<◌, ◌≤◌, true, List, Some, length}
use Rattle.cr_tokens.specs.declared.token.Token.{Token}
use Rattle.cr_syntax.specs.declared.node.Node.{Node}
use Rattle.cr_scopes_events.specs.declared.event.Event.{Event}
use Rattle.cr_scopes_events.specs.Events.{events_of}
use Rattle.cr_scopes.specs.declared.names.Names.{Names}
use Rattle.cr_scopes.specs.Resolved.{AreResolved, past_of}
use Rattle.cr_scopes_bindings.specs.Entities.{entity_at, first_of}
use Rattle.cr_scopes_bindings.specs.Visible.{visible}
use Rattle.cr_scopes_visibility.specs.Alone.Alone.{IsAlone}
use Rattle.cr_scopes_visibility.specs.Uses.Uses.{is_use}
use Rattle.cr_scopes_visibility.specs.Once.Told.{count_of, weight_of, AreWeights, AreBounds}

-- a token is told no oftener than the items of a unit lead to it
abbrev pub NamesAreToldOnce : Type 0
NamesAreToldOnce = (tokens : List Token) (nodes : List Node) (items : List ℕ) (weight : ℕ → ℕ) (token : ℕ) → AreWeights nodes weight token
    → count_of token (events_of tokens nodes items) ≤ weight_of weight items

-- and where something declares it, no oftener than nodes tell it at the most
abbrev pub TokensAreToldWithinBounds : Type 0
TokensAreToldWithinBounds = (tokens : List Token) (nodes : List Node) (items : List ℕ) (within declaring : ℕ → ℕ) (token : ℕ) → AreBounds nodes within declaring token
    → count_of token (events_of tokens nodes items) ≤ weight_of within items

-- where no name is at fault, what is visible at a name that is told once is the identifier without linkage that the name stands for (6.2.1p4)
abbrev pub WhatIsVisibleIsMeant : Type 0
WhatIsVisibleIsMeant = (name : ℕ → ℕ) (events : List Event) (tokens : ℕ) (names : Names) (token site declared : ℕ) → AreResolved name events tokens names → site < tokens
    → IsAlone token (past_of events (length events)) → is_use site (past_of events (length events)) ≡ true → first_of names (entity_at names site) ≡ Some token → count_of site events ≤ 1
    → visible name (past_of events (length events)) site ≡ Some declared → declared ≡ token

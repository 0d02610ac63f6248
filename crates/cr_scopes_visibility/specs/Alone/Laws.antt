-- Laws of identifiers without linkage.
use Rattle.std.specs.Prelude.{◌≡◌, ℕ, ◌<◌, List, Some, length}
use Rattle.cr_scopes_events.specs.declared.event.Event.{Event}
use Rattle.cr_scopes.specs.declared.names.Names.{Names}
use Rattle.cr_scopes.specs.Resolved.{AreResolved, past_of}
use Rattle.cr_scopes_bindings.specs.Entities.{entity_at, first_of}
use Rattle.cr_scopes_visibility.specs.Alone.Alone.{IsAlone}
use Rattle.cr_scopes_visibility.specs.Alone.Sight.{IsSeen}

-- where no name is at fault, an identifier that is declared without linkage is the first declaration of its entity (6.2.2p6, 6.7p3)
abbrev pub AloneIsFirst : Type 0
AloneIsFirst = (name : ℕ → ℕ) (events : List Event) (tokens : ℕ) (names : Names) (token found : ℕ) → AreResolved name events tokens names → token < tokens
    → IsAlone token (past_of events (length events)) → first_of names (entity_at names token) ≡ Some found → found ≡ token

-- and another token that stands for it is used where its declaration is in scope (6.2.1p4)
abbrev pub AloneIsSeen : Type 0
AloneIsSeen = (name : ℕ → ℕ) (events : List Event) (tokens : ℕ) (names : Names) (token site : ℕ) → AreResolved name events tokens names → site < tokens
    → (site ≡ token → ⊥) → IsAlone token (past_of events (length events)) → first_of names (entity_at names site) ≡ Some token
    → IsSeen name token site (past_of events (length events))

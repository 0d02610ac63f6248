-- Laws of the names of functions.
use Rattle.std.specs.Prelude.{◌≡◌, ℕ, ◌<◌, true, List, Some, length, slice_get}
use Rattle.cr_tokens.specs.declared.token.Token.{Token}
use Rattle.cr_syntax.specs.declared.node.Kind.TheVariants as kind
use Rattle.cr_syntax.specs.declared.node.Node.{Node}
use Rattle.cr_scopes_events.specs.declared.event.Event.{Event}
use Rattle.cr_scopes_events.specs.Events.{events_of}
use Rattle.cr_scopes.specs.declared.names.Names.{Names}
use Rattle.cr_scopes.specs.Resolved.{AreResolved, past_of}
use Rattle.cr_scopes_bindings.specs.Entities.{declared_entity}
use Rattle.cr_scopes_bindings.specs.Visible.{is_named}
use Rattle.cr_scopes_linkage.specs.Shared.Sorts.{Never}
use Rattle.cr_scopes_linkage.specs.Shared.Origins.{IsDeclarer}
use Rattle.cr_scopes_linkage.specs.Functions.Functions.{is_other, IsFunction, AreValues}

-- where no name is at fault, two tokens that are told as functions of one name declare one entity, in whatever scopes (6.2.2p2)
abbrev pub FunctionsShareEntities : Type 0
FunctionsShareEntities = (name : ℕ → ℕ) (events : List Event) (tokens : ℕ) (names : Names) (one other : ℕ) → AreResolved name events tokens names → AreValues tokens (past_of events (length events))
    → one < tokens → other < tokens → IsFunction one (past_of events (length events)) → IsFunction other (past_of events (length events)) → name one ≡ name other
    → (entity : ℕ) × ((declared_entity names one ≡ Some entity) × (declared_entity names other ≡ Some entity))

-- the name that one of a unit's definitions declares is told
abbrev pub DefinitionsAreTold : Type 0
DefinitionsAreTold = (tokens : List Token) (nodes : List Node) (items : List ℕ) (place i q token : ℕ) (m : Node) → slice_get items place ≡ Some i → IsDeclarer nodes token i q m
    → m.kind ≡ kind.FunctionDefinition → is_named token (past_of (events_of tokens nodes items) (length (events_of tokens nodes items))) ≡ true

-- and each token that is told as no type, no tag and no use declares an entity (6.2.2)
abbrev pub ToldNamesHaveEntities : Type 0
ToldNamesHaveEntities = (name : ℕ → ℕ) (events : List Event) (tokens : ℕ) (names : Names) (token : ℕ) → AreResolved name events tokens names → AreValues tokens (past_of events (length events))
    → token < tokens → is_named token (past_of events (length events)) ≡ true → Never is_other token (past_of events (length events)) → (entity : ℕ) × (declared_entity names token ≡ Some entity)

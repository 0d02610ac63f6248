-- The events of a unit as far as names go: scopes open and close, names are declared and used, in the order of the text.
use Rattle.std.specs.Prelude.{◌≡◌, ℕ, List, [], ◌∷◌, ◌++◌, length, Bool, true, nat_lt}
use Rattle.std.specs.List.{flat_map}
use Rattle.cr_tokens.specs.declared.token.Token.{Token}
use Rattle.cr_syntax.specs.declared.node.Node.{Node}
use Rattle.cr_scopes_events.specs.declared.event.Event.{Event}
use Rattle.cr_scopes_events.specs.declared.event.Event.TheVariants as event
use Rattle.cr_scopes_events.specs.declared.event.Step.{Step}
use Rattle.cr_scopes_events.specs.declared.event.Step.TheVariants.{Happens, Inside}
use Rattle.cr_scopes_events.specs.Values.{before, value_at}
use Rattle.cr_scopes_events.specs.Scripts.{script_of}

-- the events of a step, by those of the nodes
abbrev pub events_by : (ℕ → List Event) → Step → List Event
events_by at (Happens event) = event ∷ []
events_by at (Inside part) = at part

-- the events of a node: the walk comes to it, and does what its script says
abbrev pub event_rule : List Token → List Node → (ℕ → List Event) → ℕ → List Event
event_rule tokens nodes at i = event.Node i ∷ flat_map (events_by at) (script_of tokens nodes i)

unfoldable pub events_at : List Token → List Node → ℕ → List Event
events_at tokens nodes i = value_at [] (event_rule tokens nodes) i

-- the events of a unit's external declarations in turn
abbrev pub events_of : List Token → List Node → List ℕ → List Event
events_of tokens nodes items = flat_map (before [] (length nodes) (events_at tokens nodes)) items

-- The events of a node are those of its script, by the events of the nodes before it.
abbrev pub EventsAreScripted : Type 0
EventsAreScripted = (tokens : List Token) (nodes : List Node) (i : ℕ)
    → events_at tokens nodes i ≡ event_rule tokens nodes (before [] i (events_at tokens nodes)) i

-- Steps that are left, the last one first.
abbrev pub to_come : (ℕ → List Event) → List Step → List Event
to_come at [] = []
to_come at (step ∷ steps) = to_come at steps ++ events_by at step

-- a step that is no part from the bound on
abbrev pub is_below : ℕ → Step → Bool
is_below bound (Happens event) = true
is_below bound (Inside part) = nat_lt part bound

-- The names of a unit.
use Rattle.std.specs.Prelude.{ℕ, List, Option, length}
use Rattle.cr_syntax.specs.declared.unit.Unit as tree
use Rattle.cr_scopes_events.specs.declared.event.Event.{Event}
use Rattle.cr_scopes_events.specs.Events.{events_of}
use Rattle.cr_scopes.specs.declared.names.Names.{Names}
use Rattle.cr_scopes.specs.declared.fault.NameFault.{NameFault}
use Rattle.cr_scopes.specs.declared.fault.NameFault.TheVariants.{NoMemory, Unknown, Twice}
use Rattle.cr_scopes.specs.Spelled.{name_of}
use Rattle.cr_scopes.specs.Resolved.{AreEntities, AreResolved, IsFirstFault, IsFirstOrNone}

abbrev pub unit_events : tree.Unit → List Event
unit_events unit = events_of unit.tokens.list.items unit.nodes unit.items

-- these are the entities, whether a name is at fault or not
abbrev pub AreUnitEntities : List ℕ → tree.Unit → Names → Type 0
AreUnitEntities file unit names =
    AreEntities (name_of file unit.tokens.list.items) (unit_events unit) (length unit.tokens.list.items) names

-- it is the first fault, or there is none
abbrev pub IsUnitFirst : List ℕ → tree.Unit → Option NameFault → Type 0
IsUnitFirst file unit fault = IsFirstOrNone (name_of file unit.tokens.list.items) (unit_events unit) fault

-- no name is at fault, and these are the entities
abbrev pub AreUnitNames : List ℕ → tree.Unit → Names → Type 0
AreUnitNames file unit names =
    AreResolved (name_of file unit.tokens.list.items) (unit_events unit) (length unit.tokens.list.items) names

-- it is the first fault; of want of memory nothing is said
abbrev pub IsUnitFault : List ℕ → tree.Unit → NameFault → Type 0
IsUnitFault file unit NoMemory = Unit {0}
IsUnitFault file unit (Unknown t) = IsFirstFault (name_of file unit.tokens.list.items) (unit_events unit) (Unknown t)
IsUnitFault file unit (Twice t) = IsFirstFault (name_of file unit.tokens.list.items) (unit_events unit) (Twice t)

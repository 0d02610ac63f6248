-- What names stand for, and the entities of a unit.
use Rattle.std.specs.Prelude.{◌≡◌, ℕ, zero, suc, ◌+◌, ◌<◌, ◌≤◌, ◌==◌, Bool, true, false, not, ◌&&◌, List, [], ◌∷◌, ◌++◌, Option, None, Some, length, slice_get, slice_index_or, nat_lt, if◌then◌else◌}
use Rattle.std.specs.Option.{is_some}
use Rattle.cr_scopes_events.specs.declared.event.Role.{Role}
use Rattle.cr_scopes_events.specs.declared.event.Role.TheVariants as role
use Rattle.cr_scopes_events.specs.declared.event.Event.{Event}
use Rattle.cr_scopes_events.specs.declared.event.Event.TheVariants.{Node, Opens, Closes, Name, Member}
use Rattle.cr_scopes.specs.declared.names.Entity.{Entity}
use Rattle.cr_scopes.specs.declared.names.Names.{Names}
use Rattle.cr_scopes.specs.declared.fault.NameFault.{NameFault}
use Rattle.cr_scopes.specs.declared.fault.NameFault.TheVariants.{NoMemory, Unknown, Twice}
use Rattle.cr_scopes.specs.declared.told.Told.{Told}
use Rattle.cr_scopes.specs.declared.scope.Space.{Space}
use Rattle.cr_scopes.specs.declared.scope.Space.TheVariants.{Ordinary, Tag}
use Rattle.cr_scopes.specs.declared.scope.Found.{Found}
use Rattle.cr_scopes.specs.declared.scope.Look.{Look}
use Rattle.cr_scopes.specs.Looking.{look}
use Rattle.cr_scopes.specs.Faults.{fault_of}

-- What a token stands for.

-- the name space of a role (6.2.3)
abbrev pub space_of : Role → Space
space_of role.Content = Tag
space_of role.Alone = Tag
space_of role.Mentioned = Tag
space_of written = Ordinary

abbrev pub space_number : Space → ℕ
space_number Ordinary = 0
space_number space = 1

-- a use declares nothing, and a tag that is mentioned only where none is in scope
abbrev pub declares_by : Role → Look → Bool
declares_by role.Used tag = false
declares_by role.Mentioned tag = not (is_some tag.seen)
declares_by written tag = true

abbrev pub declares : (ℕ → ℕ) → List Event → ℕ → Role → Bool
declares name past t r = declares_by r (look name Tag (name t) zero past)

abbrev pub told_if : Bool → Role → Option Found → Option Told
told_if declares r None = None
told_if declares r (Some found) = Some (record { first = found.first; declares = declares; space = space_number (space_of r) })

-- A name stands for what is in scope directly behind it (6.2.1p7 begins a declared name's scope there).
abbrev pub told_of : (ℕ → ℕ) → List Event → ℕ → Role → Option Told
told_of name past t r = told_if (declares name past t r) r (look name (space_of r) (name t) zero (Name t r ∷ past)).seen

-- what a token stands for, by its latest event
abbrev pub told : (ℕ → ℕ) → ℕ → List Event → Option Told
told name token [] = None
told name token (Name t r ∷ past) = if token == t then told_of name past t r else told name token past
told name token (Opens ∷ past) = told name token past
told name token (Closes ∷ past) = told name token past
told name token (Member t k ∷ past) = told name token past
told name token (Node i ∷ past) = told name token past

-- Entities.

-- a token that begins an entity: its first declaration
abbrev pub begins : Option Told → ℕ → Bool
begins None t = false
begins (Some x) t = x.declares && (x.first == t)

-- how many entities the first tokens begin
abbrev pub count_of : (ℕ → Option Told) → ℕ → ℕ
count_of at zero = 0
count_of at (suc t) = if begins (at t) t then count_of at t + 1 else count_of at t

-- the number of the entity that a token stands for: how many begin before it
abbrev pub number_of : (ℕ → Option Told) → Option Told → Option ℕ
number_of at None = None
number_of at (Some x) = if begins (at x.first) x.first then Some (count_of at x.first) else None

abbrev pub nobody : Entity
nobody = record { declared = []; uses = []; space = 0 }

abbrev pub with_token : ℕ → Option Told → Entity → Entity
with_token t None entity = entity
with_token t (Some x) entity =
    if x.declares then record { declared = entity.declared ++ t ∷ []; uses = entity.uses; space = x.space }
    else record { declared = entity.declared; uses = entity.uses ++ t ∷ []; space = x.space }

abbrev pub is_number : Option ℕ → ℕ → Bool
is_number None k = false
is_number (Some j) k = j == k

-- entity k, of the first tokens: those that stand for it, in order
abbrev pub entity_of : (ℕ → Option Told) → ℕ → ℕ → Entity
entity_of at zero k = nobody
entity_of at (suc t) k = if is_number (number_of at (at t)) k then with_token t (at t) (entity_of at t k) else entity_of at t k

-- the entities of so many tokens
pub record AreNames (at : ℕ → Option Told) (bound : ℕ) (names : Names) : Type 0 where
  pub count : length names.entities ≡ count_of at bound
  pub entities : (k : ℕ) → k < count_of at bound → slice_get names.entities k ≡ Some (entity_of at bound k)
  pub tokens : length names.of_token ≡ bound
  pub of_token : (t : ℕ) → t < bound → slice_index_or names.of_token t None ≡ number_of at (at t)

-- Events in turn.

abbrev pub with_event : Option Event → List Event → List Event
with_event None past = past
with_event (Some event) past = event ∷ past

-- so many events, the latest first
abbrev pub past_of : List Event → ℕ → List Event
past_of events zero = []
past_of events (suc k) = with_event (slice_get events k) (past_of events k)

abbrev pub fault_if : (ℕ → ℕ) → List Event → Option Event → Option NameFault
fault_if name past None = None
fault_if name past (Some event) = fault_of name past event

-- the fault of an event, by its number
abbrev pub fault_at : (ℕ → ℕ) → List Event → ℕ → Option NameFault
fault_at name events k = fault_if name (past_of events k) (slice_get events k)

abbrev pub token_of : NameFault → ℕ
token_of NoMemory = 0
token_of (Unknown t) = t
token_of (Twice t) = t

-- the fault at the least token, and of several there that of the first event
pub record IsFirstFault (name : ℕ → ℕ) (events : List Event) (fault : NameFault) : Type 0 where
  pub event : ℕ
  pub is : fault_at name events event ≡ Some fault
  pub first : (k : ℕ) (other : NameFault) → fault_at name events k ≡ Some other → token_of fault ≤ token_of other
  pub earliest : (k : ℕ) (other : NameFault) → k < event → fault_at name events k ≡ Some other → token_of fault < token_of other

-- the first fault, or that there is none
abbrev pub IsFirstOrNone : (ℕ → ℕ) → List Event → Option NameFault → Type 0
IsFirstOrNone name events None = (k : ℕ) → fault_at name events k ≡ None
IsFirstOrNone name events (Some fault) = IsFirstFault name events fault

-- what the first tokens stand for, after all events
abbrev pub told_below : (ℕ → ℕ) → List Event → ℕ → ℕ → Option Told
told_below name events tokens t = if nat_lt t tokens then told name t (past_of events (length events)) else None

-- what the names stand for, whether one is at fault or not
abbrev pub AreEntities : (ℕ → ℕ) → List Event → ℕ → Names → Type 0
AreEntities name events tokens found = AreNames (told_below name events tokens) tokens found

-- no fault, and what the names stand for
pub record AreResolved (name : ℕ → ℕ) (events : List Event) (tokens : ℕ) (found : Names) : Type 0 where
  pub right : (k : ℕ) → fault_at name events k ≡ None
  pub names : AreEntities name events tokens found

-- When a name is unknown, or declared twice.
use Rattle.std.specs.Prelude.{◌==◌, ℕ, zero, Bool, true, false, not, ◌&&◌, ◌||◌, List, Option, None, Some}
use Rattle.std.specs.Option.{is_some}
use Rattle.cr_scopes_events.specs.declared.event.Role.{Role}
use Rattle.cr_scopes_events.specs.declared.event.Role.TheVariants as role
use Rattle.cr_scopes_events.specs.declared.event.Event.{Event}
use Rattle.cr_scopes_events.specs.declared.event.Event.TheVariants.{Name, Member}
use Rattle.cr_scopes.specs.declared.fault.NameFault.{NameFault}
use Rattle.cr_scopes.specs.declared.fault.NameFault.TheVariants.{Unknown, Twice}
use Rattle.cr_scopes.specs.declared.scope.Space.TheVariants.{Ordinary, Content}
use Rattle.cr_scopes.specs.declared.scope.Found.{Found}
use Rattle.cr_scopes.specs.declared.scope.Look.{Look}
use Rattle.cr_scopes.specs.Looking.{is_outermost, links, look, first_member}

abbrev pub is_typedef : Role → Bool
is_typedef role.Typedef = true
is_typedef written = false

-- Two declarations of one name in one scope are allowed where both have linkage, or both are typedefs (6.7p3). Whether the
-- types of two typedefs agree is not asked here.
abbrev pub clashes : Bool → Option Found → Role → Bool
clashes outermost None r = false
clashes outermost (Some found) r = not ((links outermost found.role && links outermost r) || (is_typedef found.role && is_typedef r))

-- A used name is in scope, a tag gets one content in its scope (6.7.2.3p1), and a name without linkage is declared once in
-- its scope. `ordinary` and `content` are what is found of the name so far.
abbrev pub wrong_by : Bool → Role → Look → Look → Bool
wrong_by outermost role.Used ordinary content = not (is_some ordinary.seen)
wrong_by outermost role.Content ordinary content = is_some content.here
wrong_by outermost role.Alone ordinary content = false
wrong_by outermost role.Mentioned ordinary content = false
wrong_by outermost r ordinary content = clashes outermost ordinary.here r

abbrev pub is_wrong : (ℕ → ℕ) → List Event → ℕ → Role → Bool
is_wrong name past t r = wrong_by (is_outermost past) r (look name Ordinary (name t) zero past) (look name Content (name t) zero past)

abbrev pub fault_by : Role → ℕ → NameFault
fault_by role.Used t = Unknown t
fault_by written t = Twice t

abbrev pub fault_where : Bool → NameFault → Option NameFault
fault_where true fault = Some fault
fault_where false fault = None

-- what is known stands at another token; a token may be told twice
abbrev pub is_other : ℕ → Option ℕ → Bool
is_other t None = false
is_other t (Some first) = not (first == t)

-- the fault of an event, by the events before it
abbrev pub fault_of : (ℕ → ℕ) → List Event → Event → Option NameFault
fault_of name past (Name t r) = fault_where (is_wrong name past t r) (fault_by r t)
fault_of name past (Member t k) = fault_where (is_other t (first_member name k (name t) past)) (Twice t)
fault_of name past e = None

-- Identifiers without linkage (C11 6.2.2p6), by the events that tell them.
use Rattle.std.specs.Prelude.{◌≡◌, ℕ, Bool, true, false, not, ◌&&◌, List, [], ◌∷◌}
use Rattle.cr_scopes_events.specs.declared.event.Role.{Role}
use Rattle.cr_scopes_events.specs.declared.event.Role.TheVariants as role
use Rattle.cr_scopes_events.specs.declared.event.Event.{Event}
use Rattle.cr_scopes_events.specs.declared.event.Event.TheVariants.{Node, Opens, Closes, Name, Member}
use Rattle.cr_scopes.specs.Looking.{is_outermost, links}

-- an object, a parameter or an enumerator is declared
abbrev pub is_plain : Role → Bool
is_plain role.Object = true
is_plain role.Parameter = true
is_plain role.Enumerator = true
is_plain written = false

-- and it has no linkage there
abbrev pub stands_alone : Bool → Role → Bool
stands_alone outermost r = is_plain r && not (links outermost r)

-- of events, the latest first: each that tells the token declares it so
abbrev pub IsAlone : ℕ → List Event → Type 0
IsAlone token [] = Unit {0}
IsAlone token (Name t r ∷ past) = (t ≡ token → stands_alone (is_outermost past) r ≡ true) × IsAlone token past
IsAlone token (Opens ∷ past) = IsAlone token past
IsAlone token (Closes ∷ past) = IsAlone token past
IsAlone token (Member t k ∷ past) = IsAlone token past
IsAlone token (Node i ∷ past) = IsAlone token past

-- What is kept of the events so far.
use Rattle.std.specs.Prelude.{◌≡◌, ℕ, ◌<◌, ◌≤◌, ◌==◌, Bool, ◌&&◌, List, Option, None, Some, length, slice_index_or, nat_eq, nat_le, slice_set, drop, if◌then◌else◌}
use Rattle.std.specs.Map.{lookup}
use Rattle.std.specs.HashMap.{get}
use Rattle.cr_scopes_events.specs.declared.event.Event.{Event}
use Rattle.cr_scopes.specs.declared.fault.NameFault.{NameFault}
use Rattle.cr_scopes_events.specs.declared.event.Role.{Role}
use Rattle.cr_scopes.specs.declared.scope.Space.{Space}
use Rattle.cr_scopes.specs.declared.scope.Space.TheVariants.{Ordinary, Tag, Content}
use Rattle.cr_scopes.specs.declared.scope.Scope.{Scope}
use Rattle.cr_scopes.specs.declared.told.Told.{Told}
use Rattle.cr_scopes.specs.declared.state.State.{State}
use Rattle.cr_scopes.specs.Looking.{depth, links, linked, begun_by, or_else, look, first_member}
use Rattle.cr_scopes.specs.Faults.{wrong_by, fault_by, fault_where}
use Rattle.cr_scopes.specs.Scopes.{looked, IsNamed}
use Rattle.cr_scopes.specs.Resolved.{told, told_if, declares_by, space_of, token_of}

-- the names of tokens from a row; those beyond it are their own
abbrev pub name_in : List ℕ → ℕ → ℕ
name_in names t = slice_index_or names t t

abbrev pub AreScopes : (ℕ → ℕ) → List Event → List Scope → Type 0
AreScopes name past scopes = (space : Space) (s d : ℕ) → look name space s d past ≡ looked space s (drop d scopes)

abbrev pub AreLinked : (ℕ → ℕ) → List Event → List (ℕ × ℕ) → Type 0
AreLinked name past known = (s : ℕ) → lookup (nat_eq s) known ≡ linked name s past

abbrev pub same_pair : ℕ × ℕ → ℕ × ℕ → Bool
same_pair a b = (a.0 == b.0) && (a.1 == b.1)

abbrev pub AreTold : (ℕ → ℕ) → List Event → List (Option Told) → Type 0
AreTold name past rows = (t : ℕ) → t < length rows → slice_index_or rows t None ≡ told name t past

-- a name with linkage is known from then on, if it wasn't
abbrev pub HasLinked : Bool → ℕ → ℕ → List (ℕ × ℕ) → List (ℕ × ℕ) → Type 0
HasLinked is_linked name token old new = (q : ℕ)
    → lookup (nat_eq q) new ≡ or_else (lookup (nat_eq q) old) (if (name == q) && is_linked then Some token else None)

abbrev pub outermost_of : State → Bool
outermost_of state = state.depth == 0

abbrev pub named_fault : ℕ → ℕ → Role → State → Option NameFault
named_fault name token r state =
    fault_where (wrong_by (outermost_of state) r (looked Ordinary name state.scopes) (looked Content name state.scopes)) (fault_by r token)

-- what is kept changes by a name
pub record HasNamed (name token : ℕ) (r : Role) (old new : State) : Type 0 where
  pub scopes : IsNamed name (begun_by (outermost_of old) (lookup (nat_eq name) old.linked) token r) old.scopes new.scopes
  pub depth : new.depth ≡ old.depth
  pub linked : HasLinked (links (outermost_of old) r) name token old.linked new.linked
  pub members : new.members ≡ old.members
  pub told : new.told.items ≡ slice_set old.told.items token
      (told_if (declares_by r (looked Tag name old.scopes)) r (looked (space_of r) name new.scopes).seen)

-- All that is kept is what looking back finds.
pub record IsState (name : ℕ → ℕ) (past : List Event) (state : State) : Type 0 where
  pub scopes : AreScopes name past state.scopes
  pub depth : state.depth ≡ depth past
  pub linked : AreLinked name past state.linked
  pub members : (structure s : ℕ) → get same_pair state.members (structure, s) ≡ first_member name structure s past
  pub told : AreTold name past state.told.items

-- the lesser of two faults
abbrev pub lesser : Option NameFault → Option NameFault → Option NameFault
lesser None second = second
lesser (Some first) None = Some first
lesser (Some first) (Some second) = if nat_le (token_of first) (token_of second) then Some first else Some second

-- a fault among the first k that is at the least token of them, and the first one there
pub record IsFirstBelow (at : ℕ → Option NameFault) (k : ℕ) (fault : NameFault) : Type 0 where
  pub event : ℕ
  pub below : event < k
  pub is : at event ≡ Some fault
  pub first : (j : ℕ) (other : NameFault) → j < k → at j ≡ Some other → token_of fault ≤ token_of other
  pub earliest : (j : ℕ) (other : NameFault) → j < event → at j ≡ Some other → token_of fault < token_of other

abbrev pub IsLeast : (ℕ → Option NameFault) → ℕ → Option NameFault → Type 0
IsLeast at k None = (j : ℕ) → j < k → at j ≡ None
IsLeast at k (Some fault) = IsFirstBelow at k fault

-- The scopes of typedef names that events make, the latest event first (C11 6.2.1, 6.7.8).
use Rattle.std.specs.Prelude.{◌≡◌, ◌==◌, ◌&&◌, ℕ, Bool, true, false, not, List, [], ◌∷◌, Option, None, Some, if◌then◌else◌}
use Rattle.std.specs.Str.{bytes_eq}
use Rattle.cr_syntax.specs.declared.scopes.TypeName.{TypeName}
use Rattle.cr_syntax.specs.Scopes.{Scopes, enter}
use Rattle.cr_syntax.specs.Units.{file_scope}
use Rattle.cr_scopes_events.specs.declared.event.Role.{Role}
use Rattle.cr_scopes_events.specs.declared.event.Role.TheVariants as role
use Rattle.cr_scopes_events.specs.declared.event.Event.{Event}
use Rattle.cr_scopes_events.specs.declared.event.Event.TheVariants.{Node, Opens, Closes, Name, Member}
use Rattle.cr_scopes.specs.declared.scope.Space.TheVariants.{Ordinary}
use Rattle.cr_scopes.specs.Looking.{stands_in}
use Rattle.cr_scopes_bindings.specs.Visible.{is_named}

abbrev pub is_typedef : Role → Bool
is_typedef role.Typedef = true
is_typedef written = false

-- a name that is declared is a type where it is declared as a typedef (6.7.8p3)
abbrev pub type_name : (ℕ → List ℕ) → ℕ → Role → TypeName
type_name spelling t r = record { name = spelling t; is_type = is_typedef r }

-- what is left when the innermost scope ends
abbrev pub closed : Scopes → Scopes
closed [] = []
closed (names ∷ outer) = outer

-- Tags, members and uses declare no ordinary identifier (6.2.3).
abbrev pub affected : (ℕ → List ℕ) → Event → Scopes → Scopes
affected spelling Opens c = [] ∷ c
affected spelling Closes c = closed c
affected spelling (Name t r) c = if stands_in Ordinary r then enter (type_name spelling t r) c else c
affected spelling (Member t k) c = c
affected spelling (Node i) c = c

-- the scopes after events of a file
abbrev pub scopes_of : (ℕ → List ℕ) → List Event → Scopes
scopes_of spelling [] = file_scope
scopes_of spelling (event ∷ past) = affected spelling event (scopes_of spelling past)

-- the scopes directly before the first event of a token
abbrev pub scopes_at : (ℕ → List ℕ) → List Event → ℕ → Scopes
scopes_at spelling [] token = []
scopes_at spelling (Name t r ∷ past) token = if (token == t) && not (is_named token past) then scopes_of spelling past else scopes_at spelling past token
scopes_at spelling (Opens ∷ past) token = scopes_at spelling past token
scopes_at spelling (Closes ∷ past) token = scopes_at spelling past token
scopes_at spelling (Member t k ∷ past) token = scopes_at spelling past token
scopes_at spelling (Node i ∷ past) token = scopes_at spelling past token

-- among the events is one that names the token in this role
pub data Tells (t : ℕ) (r : Role) : List Event → Type 0 where
  tells_now : {past : List Event} → Tells t r (Name t r ∷ past)
  tells_before : {event : Event} {past : List Event} → Tells t r past → Tells t r (event ∷ past)

-- it is a type where this declaration was told as a typedef, and none where there is no declaration
abbrev pub Decides : List Event → Bool → Option ℕ → Type 0
Decides past type None = type ≡ false
Decides past type (Some t) = (r : Role) × (Tells t r past × (type ≡ is_typedef r))

-- the tokens with this name are those with this spelling
abbrev pub IsSpelled : (ℕ → ℕ) → (ℕ → List ℕ) → ℕ → List ℕ → Type 0
IsSpelled name spelling s spelled = (t : ℕ) → (name t == s) ≡ bytes_eq spelled (spelling t)

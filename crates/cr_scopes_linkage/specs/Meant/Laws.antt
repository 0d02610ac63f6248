-- A law of names that are used for functions, and for what is declared `extern` (C11 6.2.1p4, 6.2.2p2).
use Rattle.std.specs.Prelude.{◌≡◌, ℕ, suc, ◌<◌, ◌≤◌, ◌==◌, Bool, true, false, List, [], ◌∷◌, Some, length, if◌then◌else◌}
use Rattle.cr_scopes_events.specs.declared.event.Role.{Role}
use Rattle.cr_scopes_events.specs.declared.event.Role.TheVariants as role
use Rattle.cr_scopes_events.specs.declared.event.Event.{Event}
use Rattle.cr_scopes_events.specs.declared.event.Event.TheVariants.{Node, Opens, Closes, Name, Member}
use Rattle.cr_scopes.specs.declared.names.Names.{Names}
use Rattle.cr_scopes.specs.Resolved.{AreResolved, past_of}
use Rattle.cr_scopes_bindings.specs.Entities.{entity_at, declared_entity}
use Rattle.cr_scopes_bindings.specs.Visible.{visible}
use Rattle.cr_scopes_visibility.specs.Alone.Sight.{is_used}
use Rattle.cr_scopes_linkage.specs.Shared.Sorts.{is_value, Never, IsOfOneSort}
use Rattle.cr_scopes_visibility.specs.Uses.Uses.{is_use}

-- how many events name a token
abbrev pub times : ℕ → List Event → ℕ
times token [] = 0
times token (Name t r ∷ past) = if token == t then suc (times token past) else times token past
times token (Opens ∷ past) = times token past
times token (Closes ∷ past) = times token past
times token (Member t k ∷ past) = times token past
times token (Node i ∷ past) = times token past

-- anything but what has linkage wherever it is told: a function, and what is declared `extern` (6.2.2p4, p5)
abbrev pub is_other : Role → Bool
is_other role.Function = false
is_other role.ExternObject = false
is_other r = true

-- what events tell of tokens: each is told as one sort alone, and a value's is one of the unit's, and isn't used
pub record AreSorted (events : List Event) (tokens : ℕ) : Type 0 where
  pub sort : (token : ℕ) → IsOfOneSort token (past_of events (length events))
  pub within : (token : ℕ) → (Never is_value token (past_of events (length events)) → ⊥) → token < tokens
  pub unused : (token : ℕ) → (Never is_value token (past_of events (length events)) → ⊥) → Never is_used token (past_of events (length events))

-- where no name is at fault, a name that is used once, and sees what is always told as a function or with `extern`, stands for the entity that this declares
abbrev pub UsesStandForDeclarations : Type 0
UsesStandForDeclarations = (name : ℕ → ℕ) (events : List Event) (tokens : ℕ) (names : Names) (token declared : ℕ) → AreResolved name events tokens names → AreSorted events tokens → token < tokens → declared < tokens
    → is_use token (past_of events (length events)) ≡ true → times token (past_of events (length events)) ≤ 1 → visible name (past_of events (length events)) token ≡ Some declared
    → Never is_other declared (past_of events (length events)) → (k : ℕ) × ((entity_at names token ≡ Some k) × (declared_entity names declared ≡ Some k))

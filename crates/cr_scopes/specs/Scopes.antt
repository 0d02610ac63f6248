-- What is found of a name in the scopes that are open.
use Rattle.std.specs.Prelude.{◌≡◌, ℕ, suc, ◌==◌, Bool, ◌&&◌, ◌||◌, List, [], ◌∷◌, Option, Some, nat_eq, drop, if◌then◌else◌}
use Rattle.std.specs.Map.{lookup}
use Rattle.std.specs.Option.{is_some}
use Rattle.cr_scopes_events.specs.declared.event.Role.{Role}
use Rattle.cr_scopes.specs.declared.scope.Space.{Space}
use Rattle.cr_scopes.specs.declared.scope.Space.TheVariants.{Ordinary, Tag, Content}
use Rattle.cr_scopes.specs.declared.scope.Found.{Found}
use Rattle.cr_scopes.specs.declared.scope.Look.{Look}
use Rattle.cr_scopes.specs.declared.scope.Scope.{Scope}
use Rattle.cr_scopes.specs.Looking.{same_space, or_else, is_mention, stands_in, noted_if, unseen}

abbrev pub blank : Scope
blank = record { ordinary = []; tags = []; contents = [] }

-- what one scope says of a name
abbrev pub said_in : Scope → Space → ℕ → Option Found
said_in scope Ordinary s = lookup (nat_eq s) scope.ordinary
said_in scope Tag s = lookup (nat_eq s) scope.tags
said_in scope Content s = lookup (nat_eq s) scope.contents

-- what the open scopes say, the innermost first
abbrev pub looked : Space → ℕ → List Scope → Look
looked space s [] = unseen
looked space s (scope ∷ outer) = record { here = said_in scope space s; seen = or_else (said_in scope space s) (looked space s outer).seen }

-- the name is known in the innermost scope from then on, if it wasn't
pub record IsNoted (space : Space) (s : ℕ) (found : Found) (old new : List Scope) : Type 0 where
  pub looks : (other : Space) (q : ℕ) → looked other q new ≡ noted_if (same_space space other && (s == q)) found (looked other q old)
  pub outer : (d : ℕ) → drop (suc d) new ≡ drop (suc d) old

-- the same, in each space where its role stands
pub record IsNamed (s : ℕ) (found : Found) (old new : List Scope) : Type 0 where
  pub looks : (space : Space) (q : ℕ) → looked space q new ≡ noted_if (stands_in space found.role && (s == q)) found (looked space q old)
  pub outer : (d : ℕ) → drop (suc d) new ≡ drop (suc d) old

-- the innermost scope is taken out; where there is none, it is a blank one
pub record IsTaken (top : Scope) (rest old : List Scope) : Type 0 where
  pub looks : (space : Space) (q : ℕ) → looked space q (top ∷ rest) ≡ looked space q old
  pub outer : (d : ℕ) → drop (suc d) (top ∷ rest) ≡ drop (suc d) old

-- a scope with one name more
abbrev pub HasPut : Space → ℕ → Found → Scope → Scope → Type 0
HasPut space s found old new = (other : Space) (q : ℕ)
    → said_in new other q ≡ (if same_space space other && (s == q) then Some found else said_in old other q)

-- what is found of a name keeps it from being noted
abbrev pub keeps : Look → Role → Bool
keeps look written = is_some look.here || (is_mention written && is_some look.seen)

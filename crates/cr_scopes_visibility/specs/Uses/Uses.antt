-- Uses of names, and the declarations before them, by events, the latest first (C11 6.2.1p7).
use Rattle.std.specs.Prelude.{◌≡◌, ◌==◌, ◌&&◌, ◌||◌, ℕ, Bool, true, false, not, List, [], ◌∷◌, Some, if◌then◌else◌}
use Rattle.cr_scopes_events.specs.declared.event.Event.{Event}
use Rattle.cr_scopes_events.specs.declared.event.Event.TheVariants.{Node, Opens, Closes, Name, Member}
use Rattle.cr_scopes.specs.declared.scope.Space.TheVariants.{Ordinary}
use Rattle.cr_scopes.specs.Looking.{stands_in}
use Rattle.cr_scopes_bindings.specs.Visible.{is_named, visible}
use Rattle.cr_scopes_visibility.specs.Alone.Sight.{is_used}

-- the first event of a token uses it
abbrev pub is_use : ℕ → List Event → Bool
is_use token [] = false
is_use token (Name t r ∷ past) = if (token == t) && not (is_named token past) then is_used r else is_use token past
is_use token (Opens ∷ past) = is_use token past
is_use token (Closes ∷ past) = is_use token past
is_use token (Member t k ∷ past) = is_use token past
is_use token (Node i ∷ past) = is_use token past

-- an ordinary identifier is declared at a token
abbrev pub is_declared : ℕ → List Event → Bool
is_declared token [] = false
is_declared token (Name t r ∷ past) = (stands_in Ordinary r && (token == t)) || is_declared token past
is_declared token (Opens ∷ past) = is_declared token past
is_declared token (Closes ∷ past) = is_declared token past
is_declared token (Member t k ∷ past) = is_declared token past
is_declared token (Node i ∷ past) = is_declared token past

-- and that before the first event of another token
abbrev pub is_before : ℕ → ℕ → List Event → Bool
is_before declared token [] = false
is_before declared token (Name t r ∷ past) = if (token == t) && not (is_named token past) then is_declared declared past else is_before declared token past
is_before declared token (Opens ∷ past) = is_before declared token past
is_before declared token (Closes ∷ past) = is_before declared token past
is_before declared token (Member t k ∷ past) = is_before declared token past
is_before declared token (Node i ∷ past) = is_before declared token past

-- what is visible at a token is a declaration of its name that is told before
pub record Finds (name : ℕ → ℕ) (token : ℕ) (past : List Event) : Type 0 where
  pub declared : ℕ
  pub is : visible name past token ≡ Some declared
  pub before : is_before declared token past ≡ true
  pub same : name declared ≡ name token

-- What a token is told as, by events, the latest first.
use Rattle.std.specs.Prelude.{◌≡◌, ℕ, ◌⊎◌, Bool, true, false, List, [], ◌∷◌}
use Rattle.cr_scopes_events.specs.declared.event.Role.{Role}
use Rattle.cr_scopes_events.specs.declared.event.Role.TheVariants as role
use Rattle.cr_scopes_events.specs.declared.event.Event.{Event}
use Rattle.cr_scopes_events.specs.declared.event.Event.TheVariants.{Node, Opens, Closes, Name, Member}
use Rattle.cr_scopes.specs.Faults.{is_typedef}
pub use Rattle.cr_scopes_typedef_names.specs.Tellings.Tellings.{is_tag}

-- an object or a function
abbrev pub is_value : Role → Bool
is_value role.Object = true
is_value role.ExternObject = true
is_value role.Function = true
is_value r = false

-- no event tells the token so
abbrev pub Never : (Role → Bool) → ℕ → List Event → Type 0
Never test token [] = Unit {0}
Never test token (Name t r ∷ past) = (t ≡ token → test r ≡ false) × Never test token past
Never test token (Opens ∷ past) = Never test token past
Never test token (Closes ∷ past) = Never test token past
Never test token (Member t k ∷ past) = Never test token past
Never test token (Node i ∷ past) = Never test token past

-- of values, type names and tags it is told as one sort alone
pub record IsOfOneSort (token : ℕ) (past : List Event) : Type 0 where
  pub ordinary : Never is_value token past ⊎ Never is_typedef token past
  pub tags : Never is_tag token past ⊎ (Never is_value token past × Never is_typedef token past)

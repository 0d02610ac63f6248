-- Tokens that are told as functions, and what else a token may be told as.
use Rattle.std.specs.Prelude.{◌≡◌, ℕ, ◌<◌, ◌⊎◌, Bool, true, false, not, List}
use Rattle.cr_scopes_events.specs.declared.event.Role.{Role}
use Rattle.cr_scopes_events.specs.declared.event.Role.TheVariants as role
use Rattle.cr_scopes_events.specs.declared.event.Event.{Event}
use Rattle.cr_scopes_bindings.specs.Visible.{is_named}
use Rattle.cr_scopes_linkage.specs.Shared.Sorts.{is_value, Never}

abbrev pub is_function : Role → Bool
is_function role.Function = true
is_function r = false

abbrev pub is_no_function : Role → Bool
is_no_function r = not (is_function r)

-- a type, a tag or a use
abbrev pub is_other : Role → Bool
is_other role.Typedef = true
is_other role.Content = true
is_other role.Alone = true
is_other role.Mentioned = true
is_other role.Used = true
is_other r = false

-- of events, the latest first: some tell the token, and each of these tells a function
pub record IsFunction (token : ℕ) (past : List Event) : Type 0 where
  pub named : is_named token past ≡ true
  pub each : Never is_no_function token past

-- what is told as an object or a function is one of so many tokens, and is told as no type, no tag and no use
abbrev pub AreValues : ℕ → List Event → Type 0
AreValues tokens past = (token : ℕ) → Never is_value token past ⊎ ((token < tokens) × Never is_other token past)

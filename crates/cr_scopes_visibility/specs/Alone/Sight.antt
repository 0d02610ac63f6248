-- Where a declaration is in scope (C11 6.2.1p4, p7), by the declarations in the scopes that are open.
use Rattle.std.specs.Prelude.{◌≡◌, ◌==◌, ◌⊎◌, ℕ, Bool, true, false, ◌||◌, List, [], ◌∷◌}
use Rattle.cr_scopes_events.specs.declared.event.Role.{Role}
use Rattle.cr_scopes_events.specs.declared.event.Role.TheVariants as role
use Rattle.cr_scopes_events.specs.declared.event.Event.{Event}
use Rattle.cr_scopes_events.specs.declared.event.Event.TheVariants.{Node, Opens, Closes, Name, Member}
use Rattle.cr_scopes_bindings.specs.declared.scoped.Binding.{Binding}
use Rattle.cr_scopes_bindings.specs.declared.scoped.Binding.TheVariants.{Bound, Mark}
use Rattle.cr_scopes_bindings.specs.Stacks.{stack_of}

-- a token's declaration is in one of the scopes that are open
abbrev pub is_bound : ℕ → List Binding → Bool
is_bound token [] = false
is_bound token (Bound name own ∷ rest) = (own == token) || is_bound token rest
is_bound token (Mark ∷ rest) = is_bound token rest

abbrev pub is_used : Role → Bool
is_used role.Used = true
is_used written = false

-- of events, the latest first: one that uses the name at a token stands where the declaration is in scope
abbrev pub IsSeen : (ℕ → ℕ) → ℕ → ℕ → List Event → Type 0
IsSeen name token site [] = ⊥
IsSeen name token site (Name t r ∷ past) =
    (((is_used r ≡ true) × (t ≡ site)) × (is_bound token (stack_of name past) ≡ true)) ⊎ IsSeen name token site past
IsSeen name token site (Opens ∷ past) = IsSeen name token site past
IsSeen name token site (Closes ∷ past) = IsSeen name token site past
IsSeen name token site (Member t k ∷ past) = IsSeen name token site past
IsSeen name token site (Node i ∷ past) = IsSeen name token site past

-- The declarations of ordinary identifiers in the scopes that are open, the latest first.
use Rattle.std.specs.Prelude.{ℕ, ◌==◌, Option, None, Some, List, [], ◌∷◌, if◌then◌else◌}
use Rattle.cr_scopes_events.specs.declared.event.Event.{Event}
use Rattle.cr_scopes_events.specs.declared.event.Event.TheVariants.{Node, Opens, Closes, Name, Member}
use Rattle.cr_scopes.specs.declared.scope.Space.TheVariants.{Ordinary}
use Rattle.cr_scopes.specs.Looking.{stands_in}
use Rattle.cr_scopes_bindings.specs.declared.scoped.Binding.{Binding}
use Rattle.cr_scopes_bindings.specs.declared.scoped.Binding.TheVariants.{Bound, Mark}

-- what is left when the innermost scope ends
abbrev pub outside : List Binding → List Binding
outside [] = []
outside (Mark ∷ rest) = rest
outside (Bound name token ∷ rest) = outside rest

abbrev pub entered : (ℕ → ℕ) → Event → List Binding → List Binding
entered name Opens stack = Mark ∷ stack
entered name Closes stack = outside stack
entered name (Name t r) stack = if stands_in Ordinary r then Bound (name t) t ∷ stack else stack
entered name (Member t k) stack = stack
entered name (Node i) stack = stack

-- the stack after events, the latest first
abbrev pub stack_of : (ℕ → ℕ) → List Event → List Binding
stack_of name [] = []
stack_of name (event ∷ past) = entered name event (stack_of name past)

-- the latest declaration of a name
abbrev pub found_in : List Binding → ℕ → Option ℕ
found_in [] s = None
found_in (Bound name token ∷ rest) s = if name == s then Some token else found_in rest s
found_in (Mark ∷ rest) s = found_in rest s

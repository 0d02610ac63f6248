-- Bindings as the code keeps them: for each name its latest declaration, and for each binding the one before it.
use Rattle.std.specs.Prelude.{◌≡◌, ℕ, Option, Some, None, List, [], ◌∷◌, slice_index_or, slice_set}
use Rattle.cr_scopes_bindings.specs.declared.scoped.Binding.{Binding}
use Rattle.cr_scopes_bindings.specs.declared.scoped.Binding.TheVariants as binding
use Rattle.cr_scopes_bindings.specs.declared.scoped.Entry.{Entry}
use Rattle.cr_scopes_bindings.specs.declared.scoped.Entry.TheVariants as entry

abbrev pub entry_of : Entry → Binding
entry_of (entry.Bound name token before) = binding.Bound name token
entry_of entry.Mark = binding.Mark

-- the latest declarations are those of these entries, the last one first
abbrev pub IsFollowed : List (Option ℕ) → List Entry → Type 0
IsFollowed latest [] = (name : ℕ) → slice_index_or latest name None ≡ None
IsFollowed latest (entry.Bound name token before ∷ rest) =
    (slice_index_or latest name None ≡ Some token) × IsFollowed (slice_set latest name before) rest
IsFollowed latest (entry.Mark ∷ rest) = IsFollowed latest rest

-- The objects of names, as the code keeps them: for each node its last object, and for each binding the one before it.
use Rattle.std.specs.Prelude.{◌≡◌, ℕ, Option, Some, None, List, [], ◌∷◌, slice_index_or, slice_set}
use Rattle.cr_meaning.specs.World.{Binding, bound, mark}
use Rattle.cr_exec_world.specs.declared.names.Binding.{Binding as Given}
use Rattle.cr_exec_world.specs.declared.names.Binding.TheVariants as given
use Rattle.cr_exec_world.specs.declared.names.Entry.{Entry}
use Rattle.cr_exec_world.specs.declared.names.Entry.TheVariants as entry

abbrev pub binding_of : Given → Binding
binding_of (given.Bound node object) = bound node object
binding_of given.Mark = mark

abbrev pub entry_of : Entry → Binding
entry_of (entry.Bound node object before) = bound node object
entry_of entry.Mark = mark

-- the latest objects are those of these entries, the last one first
abbrev pub IsFollowed : List (Option ℕ) → List Entry → Type 0
IsFollowed latest [] = (node : ℕ) → slice_index_or latest node None ≡ None
IsFollowed latest (entry.Bound node object before ∷ rest) =
    (slice_index_or latest node None ≡ Some object) × IsFollowed (slice_set latest node before) rest
IsFollowed latest (entry.Mark ∷ rest) = IsFollowed latest rest

-- What the code keeps of a unit's declarators.
use Rattle.std.specs.Prelude.{◌≡◌, ℕ, List, slice_index_or}
use Rattle.cr_typed.specs.declared.typed.Typed.{Typed}
use Rattle.cr_meaning_operations.specs.Operations.{name_of}

-- for each node the name in its first parts
abbrev pub AreNames : Typed → List ℕ → Type 0
AreNames t names = (node : ℕ) → slice_index_or names node 0 ≡ name_of t node

-- The node above each node of a tree.
use Rattle.std.specs.Prelude.{◌≡◌, ℕ, zero, suc, ◌<◌, ◌==◌, List, Bool, Option, Some, None, length, slice_get, slice_index_or, false, if◌then◌else◌}
use Rattle.std.specs.List.{list_any}
use Rattle.cr_syntax.specs.declared.node.Node.{Node}

-- the node has this number among its parts
abbrev pub has_part : Option Node → ℕ → Bool
has_part None part = false
has_part (Some node) part = list_any (λ p. p == part) node.parts

-- the last of so many nodes that has the node among its parts; of a unit at most one has it
abbrev pub above_of : List Node → ℕ → ℕ → Option ℕ
above_of nodes zero part = None
above_of nodes (suc at) part = if has_part (slice_get nodes at) part then Some at else above_of nodes at part

-- for each node the one above it
pub record AreAbove (nodes : List Node) (above : List (Option ℕ)) : Type 0 where
  pub count : length above ≡ length nodes
  pub each : (part : ℕ) → part < length nodes → slice_index_or above part None ≡ above_of nodes (length nodes) part

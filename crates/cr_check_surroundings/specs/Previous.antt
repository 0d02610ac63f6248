-- The part that stands before each in the node above it.
use Rattle.std.specs.Prelude.{◌==◌, ℕ, zero, suc, List, [], ◌∷◌, Option, None, Some, slice_get, if◌then◌else◌}
use Rattle.cr_syntax.specs.declared.node.Node.{Node}

-- what stands before a node among parts, the first of which stands behind `before`; or what was known
abbrev pub before_in : List ℕ → Option ℕ → ℕ → Option ℕ → Option ℕ
before_in [] before node was = was
before_in (part ∷ parts) before node was = before_in parts (Some part) node (if part == node then before else was)

abbrev pub before_if : Option Node → ℕ → Option ℕ → Option ℕ
before_if None node was = was
before_if (Some above) node was = before_in above.parts None node was

-- by so many nodes, of which at most one has the node among its parts
abbrev pub before_of : List Node → ℕ → ℕ → Option ℕ
before_of nodes zero node = None
before_of nodes (suc i) node = before_if (slice_get nodes i) node (before_of nodes i node)

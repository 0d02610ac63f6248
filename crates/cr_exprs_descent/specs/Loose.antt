-- What nodes keep while a file is read: those read so far are within the file's tokens, each stands under one parent or is loose, and
-- they are listed in order.
use Rattle.std.specs.Prelude.{ℕ, List, ◌++◌, length, reverse}
use Rattle.cr_syntax.specs.declared.node.Node.{Node}
use Rattle.cr_syntax.specs.Kept.{AreWithin, NamedOnce, ItemsAreNodes}
use Rattle.cr_syntax_order.specs.Listed.{AreListed}

-- nodes of so many tokens, and those that stand under no parent yet, the last one first
pub record AreKept (tokens : ℕ) (nodes : List Node) (loose : List ℕ) : Type 0 where
  pub within : AreWithin tokens nodes
  pub named_once : NamedOnce nodes loose
  pub are_nodes : ItemsAreNodes nodes loose
  pub listed : AreListed nodes 0 (reverse loose) (length nodes)

-- whatever else is loose, those taken stand under a parent behind the change, and those given are loose in their place
abbrev pub Replaces : ℕ → List Node → List Node → List ℕ → List ℕ → Type 0
Replaces tokens old new taken given = (loose : List ℕ) → AreKept tokens old (taken ++ loose) → AreKept tokens new (given ++ loose)

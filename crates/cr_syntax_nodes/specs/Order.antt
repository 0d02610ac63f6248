-- The order in which the nodes of a unit stand.
use Rattle.std.specs.Prelude.{◌≡◌, ℕ, ◌+◌, ◌<◌, ◌≤◌, ◌⊎◌, List, Some, length, slice_get}
use Rattle.cr_syntax.specs.declared.node.Node.{Node}
use Rattle.cr_syntax.specs.Kept.{PartsAreBelow, NamedOnce, ItemsAreNodes, row_in}
use Rattle.cr_syntax.specs.Words.{Lexeme}
use Rattle.cr_syntax.specs.Spells.{Limit}
use Rattle.cr_syntax.specs.Units.{IsUnit}
use Rattle.cr_syntax_order.specs.Listed.{AreListed}

-- Of nodes that are listed in order, those below node k have the numbers from some number to before k, row behind row.
abbrev pub OwnNodesStandBefore : Type 0
OwnNodesStandBefore = (nodes : List Node) (items : List ℕ) → AreListed nodes 0 items (length nodes) →
    (k : ℕ) (n : Node) → slice_get nodes k ≡ Some n → (from : ℕ) × AreListed nodes from n.parts k

-- the one ends before the other begins, or stands in it
abbrev pub IsBeforeOrIn : Node → Node → Type 0
IsBeforeOrIn m n = (m.last < n.first) ⊎ ((n.first ≤ m.first) × (m.last ≤ n.last))

-- Of two nodes of a unit that are listed in order, that with the lesser number ends before the other begins, or stands in it. So nodes
-- stand in the order in which they end, and their spans nest.
abbrev pub NodesEndInOrder : Type 0
NodesEndInOrder = (ts : List Lexeme) (limit : Limit) (nodes : List Node) (items : List ℕ) →
    PartsAreBelow nodes → NamedOnce nodes items → ItemsAreNodes nodes items → IsUnit limit ts (row_in nodes items) → AreListed nodes 0 items (length nodes) →
    (k l : ℕ) (m n : Node) → k < l → slice_get nodes k ≡ Some m → slice_get nodes l ≡ Some n → IsBeforeOrIn m n

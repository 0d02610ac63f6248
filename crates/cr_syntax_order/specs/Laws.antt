-- A law of listed nodes.
use Rattle.std.specs.Prelude.{◌≡◌, ℕ, List, length}
use Rattle.cr_syntax.specs.declared.node.Node.{Node}
use Rattle.cr_syntax.specs.Kept.{PartsAreBelow, row_in}
use Rattle.cr_syntax_order.specs.Listed.{AreListed}

-- nodes with their items that are the same trees, and are listed in order, are the same nodes
abbrev pub HasOneListing : Type 0
HasOneListing = (nodes others : List Node) (items more : List ℕ) → PartsAreBelow nodes → PartsAreBelow others
    → AreListed nodes 0 items (length nodes) → AreListed others 0 more (length others) → row_in nodes items ≡ row_in others more
    → (nodes ≡ others) × (items ≡ more)

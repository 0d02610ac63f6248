-- The order in which the nodes of a tree are listed.
use Rattle.std.specs.Prelude.{◌≡◌, ℕ, ◌+◌, List, [], ◌∷◌, Some, slice_get}
use Rattle.cr_syntax.specs.declared.node.Node.{Node}

-- AreListed nodes from row end: the nodes of a row, with all below them, have the numbers from the one to before the other, in order and
-- each behind what is below it.
pub data AreListed (nodes : List Node) : ℕ → List ℕ → ℕ → Type 0 where
  no_node : {at : ℕ} → AreListed nodes at [] at
  one_more : {from p end : ℕ} {ps : List ℕ} {n : Node} → slice_get nodes p ≡ Some n → AreListed nodes from n.parts p
      → AreListed nodes (p + 1) ps end → AreListed nodes from (p ∷ ps) end

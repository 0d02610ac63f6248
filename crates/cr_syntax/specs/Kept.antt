-- What every unit keeps of its nodes.
use Rattle.std.specs.Prelude.{◌≡◌, ℕ, ◌+◌, ◌<◌, ◌≤◌, ◌==◌, List, ◌++◌, Some, drop, length, slice_get, slice_index, count_by}
use Rattle.std.specs.List.{flat_map}
use Rattle.cr_syntax.specs.declared.node.Node.{Node}
use Rattle.cr_syntax.specs.Trees.{Trees, node, row_of, trees_of}

-- the numbers that the nodes name as their parts, and those of the items
abbrev pub named_in : List Node → List ℕ → List ℕ
named_in nodes items = flat_map (λ n. n.parts) nodes ++ items

-- each node's first token isn't after its last, and the last is one of so many tokens
abbrev pub AreWithin : ℕ → List Node → Type 0
AreWithin tokens nodes = (k : ℕ) (n : Node) → slice_get nodes k ≡ Some n → (n.first ≤ n.last) × (n.last < tokens)

-- the parts of each node are below it
abbrev pub PartsAreBelow : List Node → Type 0
PartsAreBelow nodes = (k : ℕ) (n : Node) → slice_get nodes k ≡ Some n → (i : ℕ) → i < length n.parts → slice_index n.parts i < k

-- every node stands under one parent, or among the items
abbrev pub NamedOnce : List Node → List ℕ → Type 0
NamedOnce nodes items = (k : ℕ) → k < length nodes → count_by (λ p. p == k) (named_in nodes items) ≡ 1

-- each item is one of the nodes
abbrev pub ItemsAreNodes : List Node → List ℕ → Type 0
ItemsAreNodes nodes items = (i : ℕ) → i < length items → slice_index items i < length nodes

-- each number of a list is below a bound
abbrev pub AreBelow : List ℕ → ℕ → Type 0
AreBelow ps bound = (i : ℕ) → i < length ps → slice_index ps i < bound

-- the trees of a row of nodes
abbrev pub row_in : List Node → List ℕ → Trees
row_in nodes row = row_of (trees_of nodes) row

-- the first node of a row that isn't empty: its tree begins the row's, its parts are below it, and it is one of the row
pub record IsFirst (nodes : List Node) (row : List ℕ) (n : Node) : Type 0 where
  pub some : 0 < length row
  pub tree : row_in nodes row ≡ node n.kind n.first (n.last + 1) (row_in nodes n.parts) (row_in nodes (drop 1 row))
  pub below : AreBelow n.parts (slice_index row 0)

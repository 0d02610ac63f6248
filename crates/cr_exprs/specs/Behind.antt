-- Nodes that come to stand behind others.
use Rattle.std.specs.Prelude.{ℕ, ◌+◌, List, map}
use Rattle.cr_syntax.specs.declared.node.Node.{Node}

-- the numbers of nodes, where so many others stand before all
abbrev pub numbers_behind : ℕ → List ℕ → List ℕ
numbers_behind n ps = map (λ p. p + n) ps

abbrev pub node_behind : ℕ → Node → Node
node_behind n m = record { kind = m.kind; first = m.first; last = m.last; parts = numbers_behind n m.parts }

abbrev pub nodes_behind : ℕ → List Node → List Node
nodes_behind n ms = map (node_behind n) ms

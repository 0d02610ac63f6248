-- The syntax tree as a value, and how a list of nodes gives it.
use Rattle.std.specs.Prelude.{ℕ, ◌+◌, List, [], ◌∷◌, ◌++◌, slice_index_or}
use Rattle.cr_syntax.specs.declared.node.Kind.{Kind}
use Rattle.cr_syntax.specs.declared.node.Node.{Node}

-- A row of trees: each has a kind, the number of its first token, the number of the token after it, its parts, and what
-- stands after it in the row.
pub data Trees : Type 0 where
  none : Trees
  node : Kind → ℕ → ℕ → Trees → Trees → Trees

-- one row after another
infixr 5 ◌&◌
abbrev pub ◌&◌ : Trees → Trees → Trees
none & b = b
(node k i j a n) & b = node k i j a (n & b)

-- a tree alone
abbrev pub one : Kind → ℕ → ℕ → Trees → Trees
one k i j a = node k i j a none

-- the trees of nodes by their numbers
abbrev pub row_of : List Trees → List ℕ → Trees
row_of made [] = none
row_of made (p ∷ ps) = slice_index_or made p none & row_of made ps

-- the tree of a node, where those of the nodes before it are made
abbrev pub tree_of : List Trees → Node → Trees
tree_of made n = one n.kind n.first (n.last + 1) (row_of made n.parts)

abbrev pub grown : List Trees → List Node → List Trees
grown made [] = made
grown made (n ∷ ns) = grown (made ++ tree_of made n ∷ []) ns

-- the trees of a list of nodes, one for each; a node whose parts aren't below it lacks them
unfoldable pub trees_of : List Node → List Trees
trees_of ns = grown [] ns

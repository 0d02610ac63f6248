-- Edits of nodes.
use Rattle.std.specs.Prelude.{ℕ, List, [], ◌∷◌, map, slice_index_or}
use Rattle.cr_tokens.specs.declared.token.Token.{Token}
use Rattle.cr_syntax.specs.declared.node.Kind.TheVariants.{Void}
use Rattle.cr_syntax.specs.declared.node.Node.{Node}
use Rattle.pass_edit.specs.declared.change.Text.{Text}
use Rattle.pass_edit.specs.declared.change.Text.TheVariants.{Same}
use Rattle.pass_levels.specs.declared.counted.Counted.{Counted}
use Rattle.pass_levels.specs.Places.{replaced, token_at}

-- the node of a number; one that isn't there has no part, and is no statement and no expression
abbrev pub node_at : List Node → ℕ → Node
node_at nodes at = slice_index_or nodes at (record { kind = Void; first = 0; last = 0; parts = [] })

-- the bytes of the file from a node's first token to its last
abbrev pub bytes_of : List Token → Node → Text
bytes_of tokens n = Same (token_at tokens n.first).start (token_at tokens n.last).end

-- a text comes in the place of a node's tokens, by which the edit is counted
abbrev pub becoming : List Token → Node → Text → Counted
becoming tokens n text = record { first = n.first; last = n.last; edit = replaced tokens n.first n.last text ∷ [] }

-- a text comes in the place of each of these nodes
abbrev pub each_becoming : List Token → List Node → List ℕ → Text → List Counted
each_becoming tokens nodes parts text = map (λ p. becoming tokens (node_at nodes p) text) parts

-- each of these nodes comes in the place of node k
abbrev pub in_its_place : List Token → List Node → ℕ → List ℕ → List Counted
in_its_place tokens nodes k parts = map (λ p. becoming tokens (node_at nodes k) (bytes_of tokens (node_at nodes p))) parts

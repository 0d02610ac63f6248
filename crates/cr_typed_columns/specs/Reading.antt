-- Nodes and entries that may not be there.
use Rattle.std.specs.Prelude.{ℕ, List, Option, None, Some, slice_get, slice_index_or}
use Rattle.cr_syntax.specs.declared.node.Kind.{Kind}
use Rattle.cr_syntax.specs.declared.node.Node.{Node}
use Rattle.cr_syntax.specs.declared.unit.Unit as tree
use Rattle.cr_tokens.specs.declared.token.Token.{Token}
use Rattle.cr_scopes_events.specs.Scripts.{kind_at, parts_at}

-- the tokens of a unit, its nodes and its external declarations
pub record Parsed : Type 0 where
  pub tokens : List Token
  pub nodes : List Node
  pub items : List ℕ

abbrev pub parsed_of : tree.Unit → Parsed
parsed_of u = record { tokens = u.tokens.list.items; nodes = u.nodes; items = u.items }

abbrev pub kind_of : List Node → Option ℕ → Option Kind
kind_of nodes None = None
kind_of nodes (Some node) = kind_at nodes node

abbrev pub part_of : List Node → Option ℕ → ℕ → Option ℕ
part_of nodes None k = None
part_of nodes (Some node) k = slice_get (parts_at nodes node) k

-- the entry of a number, where there is one
abbrev pub entry_of : {A : Type 0} → List A → A → Option ℕ → A
entry_of column nothing None = nothing
entry_of column nothing (Some k) = slice_index_or column k nothing

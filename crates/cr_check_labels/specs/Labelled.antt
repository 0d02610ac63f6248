-- What the labels of a unit are judged by.
use Rattle.std.specs.Prelude.{ℕ, List, slice_index_or}
use Rattle.cr_syntax.specs.declared.node.Node.{Node}
use Rattle.cr_check_enclosing.specs.declared.context.Around.{Around}
use Rattle.cr_check_enclosing.specs.Around.{outermost}
use Rattle.cr_check_types.specs.declared.shape.Shape.{Shape}
use Rattle.cr_check_operands.specs.Values.{Seen}
use Rattle.cr_check_expressions.specs.Ruled.{facts_at}
use Rattle.cr_check_labels.specs.declared.labelled.Labelled as columns

pub record Scene : Type 0 where
  pub nodes : List Node
  -- what each expression has
  pub at : ℕ → Seen
  -- what each node has from above
  pub around : ℕ → Around
  -- the number of each token's spelling
  pub name : ℕ → ℕ

-- the same by columns, and the rows of a table
abbrev pub scene_of : List Shape → columns.Labelled → Scene
scene_of shapes labelled = record {
  nodes = labelled.nodes.now;
  at = facts_at shapes labelled.facts.now;
  around = λ node. slice_index_or labelled.around.now node outermost;
  name = λ token. slice_index_or labelled.names.now token token;
}

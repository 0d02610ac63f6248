-- What the statements of a unit are checked by.
use Rattle.std.specs.Prelude.{ℕ, ◌<◌, Bool, false, List, Option, None, Some, slice_index_or}
use Rattle.cr_syntax.specs.declared.node.Node.{Node}
use Rattle.cr_check_enclosing.specs.declared.context.Around.{Around}
use Rattle.cr_check_enclosing.specs.Around.{outermost}
use Rattle.cr_check_types.specs.declared.shape.Shape.{Shape}
use Rattle.cr_check_types.specs.Types.{Qualified, type_at}
use Rattle.cr_check_operands.specs.Values.{Seen}
use Rattle.cr_check_expressions.specs.Ruled.{facts_at}
use Rattle.cr_check_statements.specs.declared.setting.Setting as columns

pub record Scene : Type 0 where
  pub nodes : List Node
  -- what each expression has
  pub at : ℕ → Seen
  -- what each node has from above
  pub around : ℕ → Around
  -- what the function of a definition gives
  pub gives : Option ℕ → Qualified
  -- whether a `case`, a `default` or a label repeats an earlier one, of its `switch` or of its function
  pub again : ℕ → Bool
  -- the label that a `goto` may name
  pub label : ℕ → Option ℕ

abbrev pub result_row : List ℕ → Option ℕ → ℕ
result_row results None = 0
result_row results (Some node) = slice_index_or results node 0

-- the same by columns, and the rows of a table
abbrev pub scene_of : List Shape → columns.Setting → Scene
scene_of shapes setting = record {
  nodes = setting.nodes.now;
  at = facts_at shapes setting.facts.now;
  around = λ node. slice_index_or setting.around.now node outermost;
  gives = λ function. type_at shapes (result_row setting.results.now function);
  again = λ node. slice_index_or setting.again.now node false;
  label = λ node. slice_index_or setting.labels.now node None;
}

-- the rows of results are there
abbrev pub AreResults : ℕ → columns.Setting → Type 0
AreResults count setting = (function : Option ℕ) → result_row setting.results.now function < count

use Rattle.std.proofs.Common.{◌++◌, ◌∷◌, [], ◌∙◌, ap, refl}
use Rattle.cr_meaning_operations.specs.Operations.{ops_from, unit_op}
use Rattle.cr_exec_table.proofs.program.table_of.Goals as goal

pub returns : goal.returns
returns c = record {
  ops = c.in_ok-ops.ensures ∙ ap (λ t. ops_from t 0 t.nodes ++ unit_op t ∷ []) c.in_ok-nodes.ensures;
  shape = c.in_ok-shapes.ensures;
  literal = c.in_ok-literals.ensures;
  kinds = c.in_ok-kinds.ensures;
  limits = refl;
}

use Rattle.std.proofs.Common.{◌++◌, ◌∷◌, [], ◌∙◌, ap, sym, length, take, arith}
use Rattle.cr_meaning_operations.specs.Operations.{ops_from}
use Rattle.cr_exec_table.proofs.Lists.{ops_more}
use Rattle.cr_exec_table.proofs.program.ops.Goals as goal

pub loop-node-preserved : goal.loop-node-preserved
loop-node-preserved c =
    let t = c.args.nodes.now in
    let node = c.loop-node.node in
    let count = c.count-node-end.ensures.is ∙ ap (λ t. length t.nodes) c.types.ensures in
    let within = c.loop-node-test.true in
    c.in_ok-push.ensures.items
    ∙ ap (λ r. r ++ c.in_ok-op.field-0 ∷ []) c.loop-node.invariant
    ∙ ap (λ op. ops_from t 0 (take node t.nodes) ++ op ∷ []) c.in_ok-op.ensures
    ∙ sym (ops_more t t.nodes node (omega (arith, count, within)))

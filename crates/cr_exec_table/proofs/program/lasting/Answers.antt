use Rattle.std.proofs.Common.{◌++◌, ◌∙◌, ap, length, take, arith}
use Rattle.cr_meaning_operations.specs.Operations.{nodes_from, is_lasting}
use Rattle.cr_exec_table.specs.Table.{one_if}
use Rattle.cr_exec_table.proofs.Lists.{nodes_more}
use Rattle.cr_exec_table.proofs.program.lasting.Goals as goal

pub loop-node-preserved : goal.loop-node-preserved
loop-node-preserved c =
    let t = c.args.nodes.now in
    let node = c.loop-node.node in
    let count = c.count-node-end.ensures.is ∙ ap (λ t. length t.nodes) c.types.ensures in
    let within = c.loop-node-test.true in
    c.in_ok-push_if.ensures
    ∙ ap (λ r. r ++ one_if c.is_lasting.result node) c.loop-node.invariant
    ∙ ap (λ b. nodes_from (is_lasting t) 0 (take node t.nodes) ++ one_if b node) c.is_lasting.ensures
    ∙ nodes_more (is_lasting t) t.nodes node (omega (arith, count, within))

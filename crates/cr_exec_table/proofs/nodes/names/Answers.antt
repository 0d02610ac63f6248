use Rattle.std.proofs.Common.{arith}
use Rattle.cr_exec_table.proofs.Names.{names_all}
use Rattle.cr_exec_table.proofs.nodes.names.Goals as goal

pub returns : goal.returns
returns c =
    let t = c.args.types.now in
    let typed = c.count-node-end.ensures.typed in
    let main = typed.main_node in
    let past = c.loop-node-test.false in
    let within = c.loop-node.auto.node-end in
    let nodes = c.count-node-end.ensures.is in
    let count = c.loop-node.invariant.count in
    names_all t typed.parts_below c.loop-node.names.items (omega (arith, main)) (omega (arith, past, within, nodes, count))
    (λ k lt. c.loop-node.invariant.each k (omega (arith, lt, past, within, nodes)))

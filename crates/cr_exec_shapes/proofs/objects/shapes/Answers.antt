use Rattle.std.proofs.Common.{[], arith}
use Rattle.cr_meaning_operations.specs.Operations.{kind_at, object_shape}
use Rattle.cr_exec_shapes.proofs.Rows.{past_is}
use Rattle.cr_exec_shapes.proofs.Beyond.{no_shape}
use Rattle.cr_exec_shapes.proofs.objects.shapes.Goals as goal

pub returns : goal.returns
returns c =
    let t = c.args.types.now in
    let past = c.loop-node-test.false in
    let within = c.loop-node.auto.node-end in
    let nodes = c.count-node-end.ensures.is in
    let count = c.loop-node.invariant.count in
    rw c.from_vec.ensures (past_is (λ node. object_shape t node (kind_at t node)) c.loop-node.shapes.items []
    (λ k lt. c.loop-node.invariant.each k (omega (arith, count, lt)))
    (λ k gone. no_shape t k c.count-node-end.ensures.typed (omega (arith, gone, past, within, nodes, count))))

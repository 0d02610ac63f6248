use Rattle.std.proofs.Common.{None, arith, rules}
use Rattle.cr_meaning_operations.specs.Operations.{kind_at, literal_by}
use Rattle.cr_exec_shapes.proofs.Rows.{grown, past_is}
use Rattle.cr_exec_shapes.proofs.Beyond.{no_literal}
use Rattle.cr_exec_shapes.proofs.objects.literals.Goals as goal

pub loop-node-preserved : goal.loop-node-preserved
loop-node-preserved c =
    let t = c.args.types.now in
    record {
      count = search rules;
      each = λ k lt. rw c.in_ok-push.ensures.items (grown (λ node. literal_by t node (kind_at t node)) c.loop-node.literals.items c.loop-node.node None c.in_ok-literal.field-0
          c.loop-node.invariant.count c.loop-node.invariant.each c.in_ok-literal.ensures k lt);
    }

pub returns : goal.returns
returns c =
    let t = c.args.types.now in
    let past = c.loop-node-test.false in
    let within = c.loop-node.auto.node-end in
    let nodes = c.count-node-end.ensures.is in
    let count = c.loop-node.invariant.count in
    rw c.from_vec.ensures (past_is (λ node. literal_by t node (kind_at t node)) c.loop-node.literals.items None
    (λ k lt. c.loop-node.invariant.each k (omega (arith, count, lt)))
    (λ k gone. no_literal t k (omega (arith, gone, past, within, nodes, count))))

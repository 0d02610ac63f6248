use Rattle.std.proofs.Common.{sym, subst, rules, [], slice_index_or}
use Rattle.cr_exec_shapes.specs.Types.{AreSums}
use Rattle.cr_exec_shapes.proofs.Sums.{grown_all}
use Rattle.cr_exec_shapes.proofs.offsets.offsets.Goals as goal

pub loop-node-preserved : goal.loop-node-preserved
loop-node-preserved c =
    let t = c.args.typed.now in
    record {
      count = search rules;
      each = λ k lt. subst (λ xs. AreSums t (slice_index_or t.members k []) (slice_index_or xs k [])) (sym c.in_ok-push.ensures.items)
          (grown_all (λ node row. AreSums t (slice_index_or t.members node []) row) c.loop-node.offsets.items c.loop-node.node [] c.in_ok-sums.field-0
          c.loop-node.invariant.count c.loop-node.invariant.each (subst (λ rows. AreSums t rows c.in_ok-sums.field-0) c.members_at.ensures c.in_ok-sums.ensures) k lt);
    }

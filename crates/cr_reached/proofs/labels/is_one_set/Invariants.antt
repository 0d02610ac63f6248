use Rattle.cr_reached.proofs.Labelled.{NoneSetBefore}
use Rattle.cr_reached.proofs.labels.is_one_set.Given as goal

abbrev pub invariant-loop-node : goal.invariant-loop-node
invariant-loop-node l = NoneSetBefore l.typed l.name l.column l.node

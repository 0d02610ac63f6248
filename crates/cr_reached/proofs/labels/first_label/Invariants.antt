use Rattle.cr_reached.proofs.Labelled.{NoneBefore}
use Rattle.cr_reached.proofs.labels.first_label.Given as goal

abbrev pub invariant-loop-node : goal.invariant-loop-node
invariant-loop-node l = NoneBefore l.typed l.name l.node

use Rattle.std.proofs.Common.{◌≡◌, ◌++◌}
use Rattle.pass_levels.specs.Gathered.{gathered}
use Rattle.pass_levels.specs.Nodes.{node_at}
use Rattle.pass_values.specs.Declarators.{facts_of}
use Rattle.pass_values.specs.Values.{moved_at}
use Rattle.pass_values.proofs.initial.put_row.Given as goal

abbrev pub invariant-loop-at : goal.invariant-loop-at
invariant-loop-at l = l.all.items ≡ l.fn.all.items ++ gathered (moved_at (facts_of l.known) (node_at l.known.nodes.now l.declaration) l.row) l.at

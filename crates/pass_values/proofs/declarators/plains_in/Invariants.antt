use Rattle.std.proofs.Common.{◌≡◌}
use Rattle.pass_levels.specs.Gathered.{gathered}
use Rattle.pass_values.specs.Declarators.{plains_from}
use Rattle.pass_values.proofs.declarators.plains_in.Given as goal

abbrev pub invariant-loop-node : goal.invariant-loop-node
invariant-loop-node l = l.plains.items ≡ gathered (plains_from l.nodes l.names) l.node

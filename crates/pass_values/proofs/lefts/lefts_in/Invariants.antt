use Rattle.std.proofs.Common.{◌≡◌}
use Rattle.pass_levels.specs.Gathered.{gathered}
use Rattle.pass_values.specs.Values.{lefts_from}
use Rattle.pass_values.proofs.lefts.lefts_in.Given as goal

abbrev pub invariant-loop-node : goal.invariant-loop-node
invariant-loop-node l = l.lefts.items ≡ gathered (lefts_from l.nodes) l.node

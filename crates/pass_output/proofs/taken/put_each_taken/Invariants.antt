use Rattle.std.proofs.Common.{◌≡◌, ◌++◌}
use Rattle.pass_levels.specs.Gathered.{gathered}
use Rattle.pass_levels.specs.Nodes.{node_at}
use Rattle.pass_output.specs.Formats.{facts_of}
use Rattle.pass_output.specs.Output.{taken_at}
use Rattle.pass_output.proofs.taken.put_each_taken.Given as goal

abbrev pub invariant-loop-at : goal.invariant-loop-at
invariant-loop-at l = l.all.items ≡ l.fn.all.items ++ gathered (taken_at (facts_of l.known) l.token (node_at l.known.nodes.now l.call) l.conversions) l.at

use Rattle.std.proofs.Common.{◌≡◌, ◌++◌}
use Rattle.pass_levels.specs.Gathered.{gathered}
use Rattle.pass_levels.specs.Nodes.{node_at}
use Rattle.pass_output.specs.Formats.{facts_of}
use Rattle.pass_output.specs.Output.{number_at}
use Rattle.pass_output.proofs.numbers.put_each_number.Given as goal

abbrev pub invariant-loop-at : goal.invariant-loop-at
invariant-loop-at l = l.all.items ≡ l.fn.all.items ++ gathered (number_at (facts_of l.known) l.token (node_at l.known.nodes.now l.call) l.conversions) l.at

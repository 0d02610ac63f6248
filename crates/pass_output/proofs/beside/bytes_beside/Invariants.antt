use Rattle.std.proofs.Common.{◌≡◌}
use Rattle.pass_levels.specs.Gathered.{gathered}
use Rattle.pass_output.specs.Formats.{facts_of}
use Rattle.pass_output.specs.Output.{bytes_before}
use Rattle.pass_output.proofs.beside.bytes_beside.Given as goal

abbrev pub invariant-loop-at : goal.invariant-loop-at
invariant-loop-at l = l.edit ≡ gathered (bytes_before (facts_of l.known) l.token l.conversions) l.at

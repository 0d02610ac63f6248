use Rattle.std.proofs.Common.{◌≡◌}
use Rattle.pass_levels.specs.Gathered.{gathered}
use Rattle.pass_output.specs.Conversions.{conversion_from, is_second}
use Rattle.pass_output.proofs.conversions.conversions_of.Given as goal

abbrev pub invariant-loop-at : goal.invariant-loop-at
invariant-loop-at l = (l.conversions.items ≡ gathered (conversion_from l.text) l.at) × (l.is_second ≡ is_second l.text l.at)

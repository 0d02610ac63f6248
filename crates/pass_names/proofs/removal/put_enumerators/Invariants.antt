use Rattle.std.proofs.Common.{◌≡◌, ◌++◌}
use Rattle.pass_levels.specs.Gathered.{gathered}
use Rattle.pass_names.specs.Unused.{enumerator_gives}
use Rattle.pass_names.proofs.removal.put_enumerators.Given as goal

abbrev pub invariant-loop-at : goal.invariant-loop-at
invariant-loop-at l = l.all.items ≡ l.fn.all.items ++ gathered (enumerator_gives l.tokens l.nodes l.names l.row) l.at

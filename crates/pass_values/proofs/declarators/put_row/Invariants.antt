use Rattle.std.proofs.Common.{◌≡◌, ◌++◌}
use Rattle.pass_levels.specs.Gathered.{gathered}
use Rattle.pass_values.specs.Declarators.{plain_at}
use Rattle.pass_values.proofs.declarators.put_row.Given as goal

abbrev pub invariant-loop-at : goal.invariant-loop-at
invariant-loop-at l = l.plains.items ≡ l.fn.plains.items ++ gathered (plain_at l.nodes l.names l.declaration l.row) l.at

use Rattle.std.proofs.Common.{◌≡◌}
use Rattle.pass_levels.specs.Gathered.{gathered}
use Rattle.pass_levels.proofs.level.in_turn.Given as goal

abbrev pub invariant-loop-at : goal.invariant-loop-at
invariant-loop-at g l = l.edits ≡ gathered (g.T.Turns.gives l.turns) l.at

use Rattle.std.proofs.Common.{◌≡◌, ◌++◌}
use Rattle.pass_levels.specs.Gathered.{gathered}
use Rattle.pass_levels.specs.Nodes.{node_at}
use Rattle.pass_names.specs.Unused.{member_gives}
use Rattle.pass_names.proofs.removal.put_members.Given as goal

abbrev pub invariant-loop-at : goal.invariant-loop-at
invariant-loop-at l = l.all.items ≡ l.fn.all.items ++ gathered (member_gives l.file l.tokens l.nodes l.uses l.content (node_at l.nodes l.whole) l.row) l.at

use Rattle.std.proofs.Common.{◌≡◌}
use Rattle.pass_levels.specs.Gathered.{gathered}
use Rattle.pass_levels.specs.Nodes.{node_at}
use Rattle.pass_names.specs.Members.{member_use_by, structure_at}
use Rattle.pass_names.proofs.members.member_uses.Given as goal

abbrev pub invariant-loop-node : goal.invariant-loop-node
invariant-loop-node l = l.uses.items ≡ gathered (λ k. member_use_by (structure_at l.structures k) (node_at l.nodes k).last) l.node

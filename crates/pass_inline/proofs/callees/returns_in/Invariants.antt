use Rattle.std.proofs.Common.{◌≡◌}
use Rattle.pass_levels.specs.Gathered.{gathered}
use Rattle.pass_levels.specs.Nodes.{node_at}
use Rattle.pass_inline.specs.Callees.{returns_by}
use Rattle.pass_inline.proofs.callees.returns_in.Given as goal

abbrev pub invariant-loop-node : goal.invariant-loop-node
invariant-loop-node l = l.returns.items ≡ gathered (λ k. returns_by (node_at l.nodes k).kind (node_at l.nodes k).first) l.node

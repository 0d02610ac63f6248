use Rattle.std.proofs.Common.{◌≡◌}
use Rattle.pass_levels.specs.Gathered.{gathered}
use Rattle.pass_levels.specs.Nodes.{node_at}
use Rattle.pass_inline.specs.Callees.{declared_by}
use Rattle.pass_inline.proofs.callees.declared_in.Given as goal

abbrev pub invariant-loop-node : goal.invariant-loop-node
invariant-loop-node l = l.declared.items ≡ gathered (λ k. declared_by (node_at l.nodes k).kind l.nodes l.names k) l.node

use Rattle.std.proofs.Common.{◌≡◌}
use Rattle.pass_levels.specs.Gathered.{gathered}
use Rattle.pass_levels.specs.Nodes.{node_at}
use Rattle.pass_inline.specs.Callees.{callee_by, returns_in}
use Rattle.pass_inline.proofs.callees.callees_in.Given as goal

abbrev pub invariant-loop-node : goal.invariant-loop-node
invariant-loop-node l = l.callees.items ≡ gathered (λ k. callee_by (node_at l.nodes k).kind l.nodes l.names (returns_in l.nodes) k) l.node

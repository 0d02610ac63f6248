use Rattle.std.proofs.Common.{◌≡◌}
use Rattle.pass_levels.specs.Gathered.{gathered}
use Rattle.pass_levels.specs.Nodes.{node_at}
use Rattle.pass_stmts.specs.Labels.{function_at, jump_by}
use Rattle.pass_stmts.proofs.labels.jumps_of.Given as goal

abbrev pub invariant-loop-node : goal.invariant-loop-node
invariant-loop-node l = l.jumps.items ≡ gathered (λ k. jump_by (node_at l.nodes k).kind (function_at l.functions k) (node_at l.nodes k).first) l.node

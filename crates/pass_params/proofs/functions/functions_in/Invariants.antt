use Rattle.std.proofs.Common.{◌≡◌}
use Rattle.pass_levels.specs.Gathered.{gathered}
use Rattle.pass_levels.specs.Nodes.{node_at}
use Rattle.pass_params.specs.Functions.{functions_by}
use Rattle.pass_params.proofs.functions.functions_in.Given as goal

abbrev pub invariant-loop-node : goal.invariant-loop-node
invariant-loop-node l = l.functions.items ≡ gathered (λ k. functions_by (node_at l.nodes k).kind k) l.node

use Rattle.std.proofs.Common.{◌≡◌, [], ◌∷◌}
use Rattle.pass_levels.specs.Gathered.{gathered}
use Rattle.pass_levels.specs.Nodes.{node_at}
use Rattle.pass_inline.specs.Spelled.{arguments_by}
use Rattle.pass_inline.proofs.spelled.arguments_in.Given as goal

abbrev pub invariant-loop-node : goal.invariant-loop-node
invariant-loop-node l = l.runs ≡ gathered (λ k. arguments_by (node_at l.nodes k).kind l.nodes (node_at l.nodes k).parts ∷ []) l.node

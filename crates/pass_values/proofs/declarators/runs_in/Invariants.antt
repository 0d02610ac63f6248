use Rattle.std.proofs.Common.{◌≡◌, [], ◌∷◌}
use Rattle.pass_levels.specs.Gathered.{gathered}
use Rattle.pass_levels.specs.Nodes.{node_at}
use Rattle.pass_values.specs.Declarators.{run_of}
use Rattle.pass_values.proofs.declarators.runs_in.Given as goal

abbrev pub invariant-loop-node : goal.invariant-loop-node
invariant-loop-node l = l.runs ≡ gathered (λ k. (run_of (node_at l.nodes k) ∷ []) ∷ []) l.node

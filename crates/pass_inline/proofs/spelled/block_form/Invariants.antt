use Rattle.std.proofs.Common.{◌≡◌}
use Rattle.pass_levels.specs.Gathered.{gathered}
use Rattle.pass_levels.specs.Nodes.{node_at}
use Rattle.pass_params.specs.Functions.{part_at}
use Rattle.pass_inline.specs.Spelled.{parameter_bits}
use Rattle.pass_inline.proofs.spelled.block_form.Given as goal

abbrev pub invariant-loop-at : goal.invariant-loop-at
invariant-loop-at l = l.form ≡ gathered (λ at. parameter_bits (node_at l.nodes (part_at l.parameters at)) at) l.at

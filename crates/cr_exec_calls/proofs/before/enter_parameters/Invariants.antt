use Rattle.std.proofs.Common.{◌≡◌, length}
use Rattle.cr_eval.specs.Table.{program_of}
use Rattle.cr_meaning.specs.Nodes.{enter_parameters}
use Rattle.cr_exec_world.specs.Worlds.{world_of}
use Rattle.cr_exec_calls.proofs.before.enter_parameters.Given as goal

abbrev pub invariant-loop-parameter : goal.invariant-loop-parameter
invariant-loop-parameter l = record {
  same : enter_parameters (program_of l.table) (world_of l.world) l.left l.rest ≡ enter_parameters (program_of l.fn.table) (world_of l.fn.world) l.parameters l.values;
  steps : l.world.steps ≡ l.fn.world.steps;
}

abbrev pub decreases-loop-parameter : goal.decreases-loop-parameter
decreases-loop-parameter l = length l.left

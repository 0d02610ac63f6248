use Rattle.std.proofs.Common.{◌≡◌, length}
use Rattle.cr_meaning.specs.World.{enter_all}
use Rattle.cr_eval.specs.Table.{program_of}
use Rattle.cr_exec_world.specs.Worlds.{world_of, made_by}
use Rattle.cr_exec_world.proofs.objects.enter_each.Given as goal

abbrev pub invariant-loop-rest : goal.invariant-loop-rest
invariant-loop-rest l = record {
  same : enter_all (made_by l.is_static (program_of l.table)) (world_of l.world) l.rest ≡ enter_all (made_by l.is_static (program_of l.table)) (world_of l.fn.world) l.nodes;
  steps : l.world.steps ≡ l.fn.world.steps;
}

abbrev pub decreases-loop-rest : goal.decreases-loop-rest
decreases-loop-rest l = length l.rest

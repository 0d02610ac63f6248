use Rattle.std.proofs.Common.{rules}
use Rattle.cr_eval.specs.Table.{program_of}
use Rattle.cr_exec_world.specs.Worlds.{world_of}
use Rattle.cr_exec_statements.proofs.Ending.{block_later}
use Rattle.cr_exec_statements.proofs.objects.block_before.Goals as goal

pub returns-else-is_empty-clause-work : goal.returns-else-is_empty-clause-work
returns-else-is_empty-clause-work c = λ answers z.
    block_later (program_of c.args.table.now) c.args.objects.now c.args.done.now answers (world_of c.args.world.now) (λ e. absurd (search (rules))) z

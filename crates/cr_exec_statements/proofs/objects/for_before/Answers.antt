use Rattle.std.proofs.Common.{rules}
use Rattle.cr_eval.specs.Table.{program_of}
use Rattle.cr_exec_world.specs.Worlds.{world_of}
use Rattle.cr_exec_statements.proofs.Ending.{for_later}
use Rattle.cr_exec_statements.proofs.objects.for_before.Goals as goal

pub returns-else-is_empty-clause-work : goal.returns-else-is_empty-clause-work
returns-else-is_empty-clause-work c = λ answers z.
    for_later (program_of c.args.table.now) c.args.node c.args.objects.now c.args.done.now answers (world_of c.args.world.now) c.after_two.result
    (λ e. absurd (search (rules))) z (c.after_two.ensures answers z)

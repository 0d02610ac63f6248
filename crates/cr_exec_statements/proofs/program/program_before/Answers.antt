use Rattle.std.proofs.Common.{rules}
use Rattle.cr_eval.specs.Table.{program_of}
use Rattle.cr_exec_world.specs.Worlds.{world_of}
use Rattle.cr_exec_statements.proofs.Ending.{program_later}
use Rattle.cr_exec_statements.proofs.program.program_before.Goals as goal

pub returns-else-is_empty-clause-work : goal.returns-else-is_empty-clause-work
returns-else-is_empty-clause-work c = λ answers z.
    program_later (program_of c.args.table.now) c.args.objects.now c.args.parameters.now c.args.strings c.args.done.now answers (world_of c.args.world.now)
    (world_of c.call_main.new.world) c.call_main.result (λ e. absurd (search (rules))) z c.call_main.ensures.work

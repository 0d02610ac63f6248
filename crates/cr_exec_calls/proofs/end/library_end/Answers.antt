use Rattle.cr_eval.specs.Table.{program_of}
use Rattle.cr_exec_world.specs.Worlds.{world_of}
use Rattle.cr_exec_calls.proofs.Ending.{library_ends, library_fails}
use Rattle.cr_exec_calls.proofs.end.library_end.Goals as goal

pub returns-in-Ok-clause-work : goal.returns-in-Ok-clause-work
returns-in-Ok-clause-work c = λ answers z.
    library_ends (program_of c.args.table.now) c.args.node c.args.callee.now c.args.stack.now.top.done answers (world_of c.args.world.now) (world_of c.library.new.world)
    c.in-Ok.taken c.as_slice.result.now c.library.result c.held.result c.in-Ok.ensures.taken z c.as_slice.ensures.value (c.library.ensures.work answers) c.held.ensures

pub returns-in-Err-clause-work : goal.returns-in-Err-clause-work
returns-in-Err-clause-work c = λ answers z.
    library_fails (program_of c.args.table.now) c.args.node c.args.callee.now c.args.stack.now.top.done answers (world_of c.args.world.now) _
    c.in-Err.trap c.halted.result c.in-Err.ensures.taken z c.halted.ensures

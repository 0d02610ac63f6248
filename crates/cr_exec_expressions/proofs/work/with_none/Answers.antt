use Rattle.std.proofs.Common.{Ok, Err}
use Rattle.cr_meaning.specs.Nodes.{expression}
use Rattle.cr_eval.specs.Table.{program_of}
use Rattle.cr_exec_world.specs.Worlds.{world_of}
use Rattle.cr_exec_expressions.proofs.Parting.{none_join, no_answers, put_places, fails}
use Rattle.cr_exec_expressions.proofs.work.with_none.Goals as goal

pub returns-in-Ok-clause-work : goal.returns-in-Ok-clause-work
returns-in-Ok-clause-work c = λ node answers z.
    let p = program_of c.args.table.now in
    let w = world_of c.args.world.now in
    let done = c.args.stack.now.top.done in
    put_places (expression p node c.args.op.now answers w) w node c.in-Ok.part done c.put.new.stack.top.done c.put.result (no_answers done c.requires) c.put.ensures.done c.put.ensures.causes
    (none_join p node c.args.op.now done answers w w (Ok c.in-Ok.part) c.requires z (c.in-Ok.ensures node))

pub returns-in-Err-clause-work : goal.returns-in-Err-clause-work
returns-in-Err-clause-work c = λ node answers z.
    let p = program_of c.args.table.now in
    let w = world_of c.args.world.now in
    let done = c.args.stack.now.top.done in
    fails (expression p node c.args.op.now answers w) w node c.in-Err.trap done
    (none_join p node c.args.op.now done answers w w (Err c.in-Err.trap) c.requires z (c.in-Err.ensures node))

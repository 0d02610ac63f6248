use Rattle.std.proofs.Common.{Ok, Err}
use Rattle.cr_meaning.specs.Nodes.{expression}
use Rattle.cr_eval.specs.Table.{program_of}
use Rattle.cr_exec_turns.specs.declared.held.Held.TheVariants.{Part as Kept}
use Rattle.cr_exec_world.specs.Worlds.{world_of}
use Rattle.cr_exec_expressions.proofs.Parting.{one_joins, last_is, none_left, put_places, fails}
use Rattle.cr_exec_expressions.proofs.work.with_one.Goals as goal

pub returns-in-Ok-clause-work : goal.returns-in-Ok-clause-work
returns-in-Ok-clause-work c = λ node answers z.
    let p = program_of c.args.table.now in
    let w = world_of c.args.world.now in
    let done = c.args.stack.now.top.done in
    let rest = c.pop.new.self.top.done in
    let last = last_is done rest c.in-Some-Part.field-0 (Kept c.in-Some-Part.operand) c.in-Some-Part.field-0-is c.in-Some-Part.ensures.last in
    put_places (expression p node c.args.op.now answers w) (record w { memory = c.join_one.new.store }) node c.join_one.new.operand rest c.put.new.stack.top.done c.put.result
    (none_left done rest (Kept c.in-Some-Part.operand) last c.requires) c.put.ensures.done c.put.ensures.causes
    (one_joins p node c.args.op.now done rest c.in-Some-Part.operand answers w (record w { memory = c.join_one.new.store }) (Ok c.join_one.new.operand) last c.requires z
    (c.in-Ok.ensures w node))

pub returns-in-Err-clause-work : goal.returns-in-Err-clause-work
returns-in-Err-clause-work c = λ node answers z.
    let p = program_of c.args.table.now in
    let w = world_of c.args.world.now in
    let done = c.args.stack.now.top.done in
    let rest = c.pop.new.self.top.done in
    let last = last_is done rest c.in-Some-Part.field-0 (Kept c.in-Some-Part.operand) c.in-Some-Part.field-0-is c.in-Some-Part.ensures.last in
    fails (expression p node c.args.op.now answers w) (record w { memory = c.join_one.new.store }) node c.in-Err.trap rest
    (one_joins p node c.args.op.now done rest c.in-Some-Part.operand answers w (record w { memory = c.join_one.new.store }) (Err c.in-Err.trap) last c.requires z
    (c.in-Err.ensures w node))

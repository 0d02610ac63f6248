use Rattle.std.proofs.Common.{Ok, Err}
use Rattle.cr_meaning.specs.Nodes.{expression}
use Rattle.cr_eval.specs.Table.{program_of}
use Rattle.cr_exec_turns.specs.declared.held.Held.TheVariants.{Part as Kept}
use Rattle.cr_exec_world.specs.Worlds.{world_of}
use Rattle.cr_exec_expressions.proofs.Parting.{two_join, last_is, none_left_of_two, put_places, fails}
use Rattle.cr_exec_expressions.proofs.work.with_two.Goals as goal

pub returns-in-Ok-clause-work : goal.returns-in-Ok-clause-work
returns-in-Ok-clause-work c = λ node answers z.
    let p = program_of c.args.table.now in
    let w = world_of c.args.world.now in
    let x = record w { memory = c.join_two.new.store } in
    let done = c.args.stack.now.top.done in
    let middle = c.pop.new.self.top.done in
    let rest = c.pop-2.new.self.top.done in
    let last = last_is done middle c.in-Some-Part.field-0 (Kept c.in-Some-Part.right) c.in-Some-Part.field-0-is c.in-Some-Part.ensures.last in
    let first = last_is middle rest c.in-Some-Part-pop.field-0 (Kept c.in-Some-Part-pop.left) c.in-Some-Part-pop.field-0-is c.in-Some-Part-pop.ensures.last in
    let left = c.in-Some-Part-pop.left in
    let right = c.in-Some-Part.right in
    put_places (expression p node c.args.op.now answers w) x node c.join_two.new.left rest c.put.new.stack.top.done c.put.result
    (none_left_of_two done middle rest (Kept left) (Kept right) last first c.requires) c.put.ensures.done c.put.ensures.causes
    (two_join p node c.args.op.now done middle rest left right answers w x (Ok c.join_two.new.left) last first c.requires z (c.in-Ok.ensures w node))

pub returns-clause-work : goal.returns-clause-work
returns-clause-work c = λ node answers z.
    let p = program_of c.args.table.now in
    let w = world_of c.args.world.now in
    let x = record w { memory = c.join_two.new.store } in
    let done = c.args.stack.now.top.done in
    let middle = c.pop.new.self.top.done in
    let rest = c.pop-2.new.self.top.done in
    let last = last_is done middle c.in-Some-Part.field-0 (Kept c.in-Some-Part.right) c.in-Some-Part.field-0-is c.in-Some-Part.ensures.last in
    let first = last_is middle rest c.in-Some-Part-pop.field-0 (Kept c.in-Some-Part-pop.left) c.in-Some-Part-pop.field-0-is c.in-Some-Part-pop.ensures.last in
    fails (expression p node c.args.op.now answers w) x node c.in-Err.trap rest
    (two_join p node c.args.op.now done middle rest c.in-Some-Part-pop.left c.in-Some-Part.right answers w x (Err c.in-Err.trap) last first c.requires z
    (c.in-Err.ensures w node))

use Rattle.std.proofs.Common.{List, sym, subst}
use Rattle.cr_eval.specs.Table.{program_of}
use Rattle.cr_meaning.specs.Nodes.{begun}
use Rattle.cr_meaning.specs.declared.value.Value.{Value}
use Rattle.cr_exec_slices.specs.Shown.{Worked}
use Rattle.cr_exec_world.specs.Worlds.{world_of}
use Rattle.cr_exec_calls.proofs.Calling.{called_goes, called_fails}
use Rattle.cr_exec_calls.proofs.before.called.Goals as goal

pub returns-in-Ok-arguments-clause-work : goal.returns-in-Ok-arguments-clause-work
returns-in-Ok-arguments-clause-work c = λ callee answers z.
    let p = program_of c.args.table.now in
    let w = world_of c.args.world.now in
    let after = world_of c.begin.new.world in
    let P : List Value → Type 0 = λ given. Worked (begun p c.args.node c.args.parameters.now w given) c.begin.result after in
    called_goes p c.args.node callee c.args.parameters.now c.args.done.now answers w after c.in-Ok-arguments.values.items c.begin.result (rw c.if-found.false at c.in-Ok.ensures) z c.in-Ok-arguments.ensures
    (subst P c.deref.ensures.value c.begin.ensures.work)

pub returns-in-Err-clause-work : goal.returns-in-Err-clause-work
returns-in-Err-clause-work c = λ callee answers z.
    called_fails (program_of c.args.table.now) c.args.node callee c.args.parameters.now c.args.done.now answers (world_of c.args.world.now) _ c.in-Err.trap c.halted.result
    (rw c.if-found.false at c.in-Ok.ensures) z c.in-Err.ensures c.halted.ensures

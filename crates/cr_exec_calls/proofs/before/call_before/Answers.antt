use Rattle.std.proofs.Common.{List, sym, subst}
use Rattle.cr_eval.specs.Table.{program_of}
use Rattle.cr_meaning.specs.Meaning.{call_before}
use Rattle.cr_meaning.specs.Nodes.{called}
use Rattle.cr_meaning.specs.declared.op.Callee.{Callee}
use Rattle.cr_meaning.specs.declared.op.Callee.TheVariants.{Function}
use Rattle.cr_meaning.specs.declared.op.Parameter.{Parameter}
use Rattle.cr_meaning.specs.declared.op.Work.TheVariants.{Call}
use Rattle.cr_exec_slices.specs.Shown.{Worked}
use Rattle.cr_exec_world.specs.Worlds.{world_of}
use Rattle.cr_exec_calls.proofs.before.call_before.Goals as goal

pub returns-in-Function-clause-work : goal.returns-in-Function-clause-work
returns-in-Function-clause-work c = λ answers z.
    let p = program_of c.args.table.now in
    let w = world_of c.args.world.now in
    let after = world_of c.called.new.world in
    let k = Function c.in-Function.parameters c.in-Function.field-1 c.in-Function.field-2 in
    let P : Callee → Type 0 = λ callee. Worked (call_before p c.args.node (Call callee) callee answers w) c.called.result after in
    let Q : List Parameter → Type 0 = λ parameters. Worked (called p c.args.node (Call k) parameters answers w) c.called.result after in
    subst P (sym c.in-Function.is) (subst Q c.as_slice.ensures (c.called.ensures.work k answers z))

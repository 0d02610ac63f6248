use Rattle.std.proofs.Common.{sym, subst}
use Rattle.cr_eval.specs.Table.{program_of}
use Rattle.cr_meaning.specs.Nodes.{call_end}
use Rattle.cr_meaning.specs.declared.op.Callee.{Callee}
use Rattle.cr_meaning.specs.declared.op.Callee.TheVariants.{Function}
use Rattle.cr_meaning.specs.declared.op.Work.TheVariants.{Call}
use Rattle.cr_exec_slices.specs.Shown.{Joined}
use Rattle.cr_exec_turns.specs.Held.{shows}
use Rattle.cr_exec_world.specs.Worlds.{world_of}
use Rattle.cr_exec_calls.proofs.end.call_end.Goals as goal

pub returns-in-Function-clause-work : goal.returns-in-Function-clause-work
returns-in-Function-clause-work c = λ answers z.
    let P : Callee → Type 0 = λ callee. Joined shows (call_end (program_of c.args.table.now) c.args.node (Call callee) callee answers (world_of c.args.world.now)) c.function_end.result (world_of c.function_end.new.world) in
    subst P (sym c.in-Function.is) (c.function_end.ensures.work (Function c.in-Function.field-0 c.in-Function.field-1 c.in-Function.is_main) answers z)

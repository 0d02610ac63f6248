use Rattle.std.proofs.Common.{Result, sym, subst}
use Rattle.cr_meaning.specs.Nodes.{expression}
use Rattle.cr_eval.specs.Table.{program_of}
use Rattle.cr_exec_slices.specs.Shown.{Leaves}
use Rattle.cr_exec_slices.specs.declared.nodes.Halted.{Halted}
use Rattle.cr_exec_turns.specs.Held.{shows}
use Rattle.cr_exec_world.specs.Worlds.{world_of}
use Rattle.cr_exec_expressions.proofs.Parting.{joins_left}
use Rattle.cr_exec_expressions.proofs.work.expression.Goals as goal

pub returns-clause-work : goal.returns-clause-work
returns-clause-work c = λ answers z.
    let act = expression (program_of c.args.table.now) c.args.node c.args.op.now answers (world_of c.args.world.now) in
    let w = world_of c.joined-done.new.world in
    let left = c.joined-done.new.stack.top.done in
    let P : Result (Unit {0}) Halted → Type 0 = λ r. Leaves shows act r left w in
    subst P (sym c.halting.ensures) (joins_left act w c.args.node c.joined-done.result left (c.joined-done.ensures.work c.args.node answers z))

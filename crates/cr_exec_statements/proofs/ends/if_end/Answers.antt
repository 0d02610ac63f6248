use Rattle.std.proofs.Common.{ap, arith, sym, subst, length, Result, rules}
use Rattle.cr_exec_slices.specs.Shown.{Joined}
use Rattle.cr_exec_slices.specs.declared.nodes.Halted.{Halted}
use Rattle.cr_meaning.specs.Meaning.{if_end}
use Rattle.cr_exec_turns.specs.Held.{shows}
use Rattle.cr_exec_turns.specs.declared.held.Held.{Held}
use Rattle.cr_exec_world.specs.Worlds.{world_of}
use Rattle.cr_exec_statements.proofs.Ending.{if_control, if_last}
use Rattle.cr_exec_statements.proofs.ends.if_end.Goals as goal

pub returns-then-done-eq1-clause-work : goal.returns-then-done-eq1-clause-work
returns-then-done-eq1-clause-work c = λ answers z.
    subst (λ (r : Result Held Halted). Joined shows (if_end c.args.node answers (world_of c.args.world.now)) r (world_of c.args.world.now)) (sym c.passing.ensures)
    (if_control c.args.node c.args.stack.now.top.done answers (world_of c.args.world.now) c.after_one.result (omega (arith, ap length c.done.ensures, c.if-done-eq1.true)) z (search rules))

pub returns-else-done-eq1-clause-work : goal.returns-else-done-eq1-clause-work
returns-else-done-eq1-clause-work c = λ answers z.
    if_last c.args.node c.args.stack.now.top.done answers c.last.result (world_of c.args.world.now)
    (λ e. omega (arith, ap length c.done.ensures, c.if-done-eq1.false, e)) z (c.last.ensures.shown answers z)

use Rattle.std.proofs.Common.{Ok, sym, subst, ap, arith, length}
use Rattle.cr_exec_slices.specs.Shown.{Joined}
use Rattle.cr_exec_turns.specs.Held.{shows}
use Rattle.cr_exec_turns.specs.declared.held.Held.{Held}
use Rattle.cr_exec_world.specs.Worlds.{world_of}
use Rattle.cr_exec_statements.proofs.Ending.{switch_ends}
use Rattle.cr_exec_statements.proofs.ends.switch_end.Goals as goal

pub returns-else-done-eq1-clause-work : goal.returns-else-done-eq1-clause-work
returns-else-done-eq1-clause-work c = λ answers z.
    let w = world_of c.args.world.now in
    switch_ends c.args.node c.args.stack.now.top.done answers c.last.result c.close_behind.result w (world_of c.close_behind.new.world)
    (λ e. omega (arith, ap length c.done.ensures, c.if-done-eq1.false, e)) z (c.last.ensures.shown answers z)
    (λ act k. c.close_behind.ensures.work act (subst (λ (h : Held). Joined shows act (Ok h) w) (sym c.switch_left.ensures) k))

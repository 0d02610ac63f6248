use Rattle.std.proofs.Common.{arith}
use Rattle.cr_eval.specs.Table.{program_of}
use Rattle.cr_exec_world.specs.Worlds.{world_of}
use Rattle.cr_exec_statements.proofs.Ending.{switch_now, switch_later}
use Rattle.cr_exec_statements.proofs.objects.switch_before.Goals as goal

pub returns-then-done-eq1-clause-work : goal.returns-then-done-eq1-clause-work
returns-then-done-eq1-clause-work c = λ answers z.
    switch_now (program_of c.args.table.now) c.args.body c.args.objects.now c.args.done.now answers (world_of c.args.world.now) (world_of c.switched.new.world) c.switched.result
    (omega (arith, c.if-done-eq1.true)) z c.switched.ensures.work

pub returns-else-done-eq1-clause-work : goal.returns-else-done-eq1-clause-work
returns-else-done-eq1-clause-work c = λ answers z.
    switch_later (program_of c.args.table.now) c.args.body c.args.objects.now c.args.done.now answers (world_of c.args.world.now) (λ e. omega (arith, c.if-done-eq1.false, e)) z

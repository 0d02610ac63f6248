use Rattle.std.proofs.Common.{arith}
use Rattle.cr_exec_world.specs.Worlds.{world_of}
use Rattle.cr_exec_statements.proofs.Ending.{passed_two}
use Rattle.cr_exec_statements.proofs.controls.after_two.Goals as goal

pub returns-in_default : goal.returns-in_default
returns-in_default c = λ answers z.
    passed_two c.args.node c.args.done.now answers (world_of c.args.world.now) (λ e. omega (arith, e, c.in_default.len_below)) z

pub returns-in_default-2 : goal.returns-in_default-2
returns-in_default-2 c = λ answers z.
    passed_two c.args.node c.args.done.now answers (world_of c.args.world.now) (λ e. omega (arith, e, c.in_default.len_at_least)) z

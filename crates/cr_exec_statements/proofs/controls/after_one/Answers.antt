use Rattle.std.proofs.Common.{arith}
use Rattle.cr_exec_world.specs.Worlds.{world_of}
use Rattle.cr_exec_statements.proofs.Ending.{passed_one}
use Rattle.cr_exec_statements.proofs.controls.after_one.Goals as goal

pub returns-in_default-2 : goal.returns-in_default-2
returns-in_default-2 c = λ answers z.
    passed_one c.args.node c.args.done.now answers (world_of c.args.world.now) (λ e. omega (arith, e, c.in_default.len_at_least)) z

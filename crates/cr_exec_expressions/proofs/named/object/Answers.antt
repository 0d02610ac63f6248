use Rattle.std.proofs.Common.{Some}
use Rattle.cr_exec_world.specs.Worlds.{world_of}
use Rattle.cr_exec_expressions.proofs.Parting.{some_found}
use Rattle.cr_exec_expressions.proofs.named.object.Goals as goal

pub returns-in-Some : goal.returns-in-Some
returns-in-Some c = λ node.
    c.named.ensures (world_of c.args.world.now) node
    (some_found c.args.op.now.work c.args.world.now.names c.args.declared (Some c.in-Some.object) c.requires c.in-Some.ensures)

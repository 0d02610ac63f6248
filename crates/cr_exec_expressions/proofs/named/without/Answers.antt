use Rattle.std.proofs.Common.{sym}
use Rattle.cr_exec_world.specs.Worlds.{world_of}
use Rattle.cr_exec_expressions.proofs.Parting.{none_found}
use Rattle.cr_exec_expressions.proofs.named.without.Goals as goal

pub object-requires : goal.object-requires
object-requires c = sym c.in-Some.ensures

pub returns-in-None : goal.returns-in-None
returns-in-None c = λ node.
    c.join_none.ensures (world_of c.args.world.now) node (none_found c.args.op.now.work c.args.world.now.names (sym c.in-None.ensures))

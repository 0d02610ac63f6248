use Rattle.cr_eval.specs.Table.{program_of}
use Rattle.cr_exec_world.specs.Worlds.{world_of}
use Rattle.cr_exec_statements.proofs.Setting.{declare_joins, initialise_joins}
use Rattle.cr_exec_statements.proofs.work.statement.Goals as goal

pub returns-in-Declare-clause-work : goal.returns-in-Declare-clause-work
returns-in-Declare-clause-work c = λ answers z.
    declare_joins (program_of c.args.table.now) c.args.node c.args.op.now c.args.op.now.work c.in-Declare.declared answers (world_of c.args.world.now) (world_of c.declare.new.world)
    c.declare.result c.passing.result c.in-Declare.is c.passing.ensures (c.declare.ensures.work c.args.node)

pub returns-in-Initialise-clause-work : goal.returns-in-Initialise-clause-work
returns-in-Initialise-clause-work c = λ answers z.
    initialise_joins (program_of c.args.table.now) c.args.node c.args.op.now c.args.op.now.work c.in-Initialise.declared c.in-Initialise.lines c.as_slice.result.now
    c.args.stack.now.top.done c.done-in-Initialise.result.now answers (world_of c.args.world.now) (world_of c.initialise.new.world) c.initialise.result c.passing-in-Initialise.result
    c.in-Initialise.is c.as_slice.ensures c.done-in-Initialise.ensures z c.passing-in-Initialise.ensures (c.initialise.ensures.work c.args.node)

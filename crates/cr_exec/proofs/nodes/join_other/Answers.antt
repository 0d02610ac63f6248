use Rattle.std.proofs.Common.{sym, ◌∙◌}
use Rattle.cr_eval.specs.Table.{program_of}
use Rattle.cr_exec_world.specs.Worlds.{world_of}
use Rattle.cr_exec.proofs.Dispatching.{expression_here}
use Rattle.cr_exec.proofs.nodes.join_other.Goals as goal

pub returns-then-is_expression-clause-work : goal.returns-then-is_expression-clause-work
returns-then-is_expression-clause-work c = λ answers z.
    expression_here (program_of c.args.table.now) c.args.node c.args.op.now answers (world_of c.args.world.now) _ c.expression.result c.expression.new.stack.top.done
    (sym c.is_expression.ensures ∙ c.if-is_expression.true) c.requires (c.expression.ensures.work answers z)

use Rattle.std.proofs.Common.{[], ◌∷◌, sym, ◌∙◌}
use Rattle.cr_meaning.specs.Events.{Beside, gathered}
use Rattle.cr_eval.specs.Table.{program_of}
use Rattle.cr_eval_join.specs.Feet.{placed}
use Rattle.cr_eval_join.proofs.Operands.{one_alone, one_below}
use Rattle.cr_eval_join.proofs.Nodes.{one_joins}
use Rattle.cr_eval_join.proofs.node.join_one.Goals as goal

pub returns : goal.returns
returns c = λ world node events is.
    let a = c.args in
    one_joins (program_of a.table.now) node a.op.now (record world { memory = a.store.now }) c.work_one-did.new.store a.operand.now.value events c.work_one-did.result
    (placed c.finish.new.part c.finish.result) (c.work_one-did.ensures world)
    (c.finish.ensures (gathered Beside 0 (events ∷ [])) (one_below events) (record { same = is.same ∙ sym (one_alone events) }))

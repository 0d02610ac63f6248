use Rattle.cr_eval.specs.Table.{program_of}
use Rattle.cr_eval_join.proofs.Nodes.{none_joins}
use Rattle.cr_eval_join.proofs.node.bare.Goals as goal

pub returns : goal.returns
returns c = λ world node found.
    let a = c.args in
    none_joins (program_of a.table.now) node a.op.now (record world { memory = a.store.now }) a.store.now c.work_none.result c.begun.result
    (c.work_none.ensures world found) c.begun.ensures

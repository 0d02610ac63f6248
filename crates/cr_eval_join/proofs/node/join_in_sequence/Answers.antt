use Rattle.std.proofs.Common.{ap, ◌∙◌}
use Rattle.cr_footprint.specs.Foot.{sets}
use Rattle.cr_eval.specs.Table.{program_of}
use Rattle.cr_eval_join.specs.Feet.{placed}
use Rattle.cr_eval_join.proofs.Nodes.{sequence_joins}
use Rattle.cr_eval_join.proofs.node.join_in_sequence.Goals as goal

pub returns-in-Ok : goal.returns-in-Ok
returns-in-Ok c = λ world node one other first second.
    let a = c.args in
    sequence_joins (program_of a.table.now) node a.op.now (record world { memory = a.store.now }) c.work_two-did.new.store a.left.now.value a.right.now.value one other
    (sets c.replace-one.result) (sets c.replace-other.result) c.in-Ok.foot c.work_two-did.result (placed c.settle.new.part c.settle.result) c.requires
    (ap sets c.replace-one.ensures.value ∙ first.same) (ap sets c.replace-other.ensures.value ∙ second.same) c.in-Ok.ensures.joined
    (c.work_two-did.ensures world) c.settle.ensures

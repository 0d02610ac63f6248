use Rattle.std.proofs.Common.{◌≡◌, Err, [], ◌∷◌, ap, ◌∙◌}
use Rattle.cr_footprint.specs.Foot.{sets}
use Rattle.cr_meaning.specs.Events.{Beside, gathered}
use Rattle.cr_meaning.specs.Merged.{sets_of}
use Rattle.cr_eval.specs.Table.{program_of}
use Rattle.cr_eval_join.specs.Feet.{trap_of, placed}
use Rattle.cr_eval_join.proofs.Own.{unites}
use Rattle.cr_eval_join.proofs.Operands.{two_below, two_united}
use Rattle.cr_eval_join.proofs.Nodes.{beside_joins, beside_fails}
use Rattle.cr_eval_join.proofs.node.join_beside.Goals as goal

pub returns-in-Ok : goal.returns-in-Ok
returns-in-Ok c = λ world node one other first second.
    let a = c.args in
    let f = sets c.replace-one.result in
    let g = sets c.replace-other.result in
    let is_one : f ≡ sets_of one = ap sets c.replace-one.ensures.value ∙ first.same in
    let is_other : g ≡ sets_of other = ap sets c.replace-other.ensures.value ∙ second.same in
    beside_joins (program_of a.table.now) node a.op.now (record world { memory = a.store.now }) c.work_two-did.new.store a.left.now.value a.right.now.value one other f g
    c.work_two-did.result (placed c.finish.new.part c.finish.result) c.requires is_one is_other c.in-Ok.ensures.apart (c.work_two-did.ensures world)
    (c.finish.ensures (gathered Beside 0 (one ∷ (other ∷ []))) (two_below one other)
    (two_united one other f g c.in-Ok.foot is_one is_other c.in-Ok.ensures.joined))

pub returns-in-Err : goal.returns-in-Err
returns-in-Err c = λ world node one other first second.
    let a = c.args in
    let f = sets c.replace-one.result in
    let g = sets c.replace-other.result in
    rw c.trap_of.ensures
    (beside_fails (program_of a.table.now) node a.op.now (record world { memory = a.store.now }) (record world { memory = a.store.now }) a.left.now.value a.right.now.value one other
    f g (trap_of c.in-Err.end) c.requires (ap sets c.replace-one.ensures.value ∙ first.same) (ap sets c.replace-other.ensures.value ∙ second.same)
    (unites f g (Err c.in-Err.end) c.in-Err.ensures.joined c.in-Err.ensures.apart c.in-Err.ensures.conflict))

use Rattle.cr_footprint.specs.Foot.{with_write}
use Rattle.cr_meaning.specs.Events.{Writes}
use Rattle.cr_meaning.proofs.Merging.{own_write_is_added}
use Rattle.cr_eval_join.proofs.Own.{one_adds}
use Rattle.cr_eval_join.proofs.feet.with_write.Goals as goal

pub returns : goal.returns
returns c = λ all below is.
    rw c.trapped.ensures (one_adds with_write Writes (c.args.object, c.args.cell) all c.args.foot c.own_write.result (own_write_is_added (c.args.object, c.args.cell) all) below is
    c.own_write.ensures.added c.own_write.ensures.apart c.own_write.ensures.conflict)

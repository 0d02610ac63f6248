use Rattle.cr_footprint.specs.Foot.{with_touch}
use Rattle.cr_meaning.specs.Events.{Touches}
use Rattle.cr_meaning.proofs.Merging.{own_touch_is_added}
use Rattle.cr_eval_join.proofs.Own.{one_adds}
use Rattle.cr_eval_join.proofs.feet.with_touch.Goals as goal

pub returns : goal.returns
returns c = λ all below is.
    rw c.trapped.ensures (one_adds with_touch Touches (c.args.object, c.args.cell) all c.args.foot c.own_touch.result (own_touch_is_added (c.args.object, c.args.cell) all) below is
    c.own_touch.ensures.added c.own_touch.ensures.apart c.own_touch.ensures.conflict)

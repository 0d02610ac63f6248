use Rattle.cr_footprint.specs.Foot.{with_read}
use Rattle.cr_meaning.specs.Events.{Reads}
use Rattle.cr_meaning.proofs.Merging.{own_read_is_added}
use Rattle.cr_eval_join.proofs.Own.{one_adds}
use Rattle.cr_eval_join.proofs.feet.with_read.Goals as goal

pub returns : goal.returns
returns c = λ all below is.
    rw c.trapped.ensures (one_adds with_read Reads (c.args.object, c.args.cell) all c.args.foot c.own_read.result (own_read_is_added (c.args.object, c.args.cell) all) below is
    c.own_read.ensures.added c.own_read.ensures.apart c.own_read.ensures.conflict)

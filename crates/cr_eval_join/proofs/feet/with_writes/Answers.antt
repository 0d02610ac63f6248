use Rattle.cr_footprint.specs.Foot.{with_writes}
use Rattle.cr_meaning.specs.Events.{Writes}
use Rattle.cr_eval_join.proofs.Spans.{writes_are_added, span_adds}
use Rattle.cr_eval_join.proofs.feet.with_writes.Goals as goal

pub returns-in-Some : goal.returns-in-Some
returns-in-Some c = λ all below is.
    let a = c.args in
    rw c.trapped.ensures (span_adds with_writes Writes a.object a.first a.count c.in-Some.end all a.foot c.own_writes.result (writes_are_added a.object a.first a.count all) c.in-Some.ensures.1
    below is c.own_writes.ensures.added c.own_writes.ensures.apart c.own_writes.ensures.conflict)

use Rattle.cr_footprint.specs.Foot.{with_reads}
use Rattle.cr_meaning.specs.Events.{Reads}
use Rattle.cr_eval_join.proofs.Spans.{reads_are_added, span_adds}
use Rattle.cr_eval_join.proofs.feet.with_reads.Goals as goal

pub returns-in-Some : goal.returns-in-Some
returns-in-Some c = λ all below is.
    let a = c.args in
    rw c.trapped.ensures (span_adds with_reads Reads a.object a.first a.count c.in-Some.end all a.foot c.own_reads.result (reads_are_added a.object a.first a.count all) c.in-Some.ensures.1
    below is c.own_reads.ensures.added c.own_reads.ensures.apart c.own_reads.ensures.conflict)

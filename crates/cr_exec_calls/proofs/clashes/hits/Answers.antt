use Rattle.std.proofs.Common.{◌∙◌, sym}
use Rattle.cr_footprint.specs.Foot.{sets}
use Rattle.cr_exec_calls.proofs.Clashing.{match_by, hits_read, hits_write, never_hits}
use Rattle.cr_exec_calls.proofs.clashes.hits.Goals as goal

pub returns-then-has_some : goal.returns-then-has_some
returns-then-has_some c =
    match_by c.has_some.result
    (λ e. hits_read (sets c.args.one.now) (sets c.args.other.now) c.reads.result.now c.writes.result.now c.reads.ensures.cells c.writes.ensures.cells (sym c.has_some.ensures ∙ e))
    (λ e. absurd (cc (e, c.if-has_some.true)))

pub returns-else-has_some : goal.returns-else-has_some
returns-else-has_some c =
    let f = sets c.args.one.now in
    let g = sets c.args.other.now in
    match_by c.has_some-else-has_some.result
    (λ e. hits_write f g c.writes-else-has_some.result.now c.writes-else-has_some-2.result.now c.writes-else-has_some.ensures.cells c.writes-else-has_some-2.ensures.cells (sym c.has_some-else-has_some.ensures ∙ e))
    (λ e. never_hits f g c.reads.result.now c.writes-else-has_some.result.now c.writes.result.now c.writes-else-has_some-2.result.now c.reads.ensures.cells
    c.writes-else-has_some.ensures.cells c.writes.ensures.cells c.writes-else-has_some-2.ensures.cells (sym c.has_some.ensures ∙ c.if-has_some.false) (sym c.has_some-else-has_some.ensures ∙ e))

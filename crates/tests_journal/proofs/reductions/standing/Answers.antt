use Rattle.std.proofs.Common.{sym, subst}
use Rattle.std.specs.Prelude.{IfSome}
use Rattle.cr_journal.specs.Keeping.{journal_of}
use Rattle.cr_journal_records.specs.Records.{AtRest}
use Rattle.cr_journal_rows.specs.Forms.{bodies_of, header_body}
use Rattle.cr_outside_disk.specs.Moments.{EveryTold}
use Rattle.tests_journal.proofs.reductions.standing.Goals as goal

pub returns-in-Ok-clause-rests : goal.returns-in-Ok-clause-rests
returns-in-Ok-clause-rests g c =
    let told = g.D.Outside.story c.opened.new.disk in
    let found = subst (λ f. IfSome f (λ journal. EveryTold (AtRest (bodies_of journal.0 journal.1.items)) told)) c.in-Some.is c.in_ok-header.ensures.rests in
    (header_body c.in-Some.header, subst (λ rows. EveryTold (AtRest (journal_of (header_body c.in-Some.header) rows)) told) (sym c.in-Ok.ensures.replayed.same) found)

use Rattle.std.proofs.Common.{◌∙◌, refl}
use Rattle.cr_outside_disk.proofs.Lasting.{lasts_same}
use Rattle.cr_journal_records.specs.Records.{Stands}
use Rattle.cr_journal_rows.specs.Forms.{row_body}
use Rattle.cr_journal_rows.proofs.Adds.{added, kept_at_start, lasting, stands}
use Rattle.cr_journal_rows.proofs.journal.add.Goals as goal

pub returns-then-count-ge-MOST-clause-any_moment : goal.returns-then-count-ge-MOST-clause-any_moment
returns-then-count-ge-MOST-clause-any_moment g c header rows all counts front rests = kept_at_start header rows c.args.row.now c.args.count counts (row_body c.args.row.now) refl (g.D.Outside.story c.args.disk.now) (g.D.Outside.story c.args.disk.now) rests all front

pub returns-then-count-ge-MOST-clause-lasts : goal.returns-then-count-ge-MOST-clause-lasts
returns-then-count-ge-MOST-clause-lasts g c header rows some counts rests = lasts_same (Stands some) _

pub returns-in_default-clause-any_moment : goal.returns-in_default-clause-any_moment
returns-in_default-clause-any_moment g c header rows all counts front rests = kept_at_start header rows c.args.row.now c.args.count counts (row_body c.args.row.now) refl (g.D.Outside.story c.args.disk.now) (g.D.Outside.story c.args.disk.now) rests all front

pub returns-in_default-clause-lasts : goal.returns-in_default-clause-lasts
returns-in_default-clause-lasts g c header rows some counts rests = lasts_same (Stands some) _

pub returns-in_err-add-clause-any_moment : goal.returns-in_err-add-clause-any_moment
returns-in_err-add-clause-any_moment g c header rows all counts front rests =
    added header rows c.args.row.now c.args.count counts _ (c.deref.ensures.value ∙ c.in-Ok.ensures) _ _ rests all front c.add.ensures.any_moment

pub returns-in_err-add-clause-lasts : goal.returns-in_err-add-clause-lasts
returns-in_err-add-clause-lasts g c header rows some counts rests =
    lasting header rows c.args.row.now c.args.count counts _ (c.deref.ensures.value ∙ c.in-Ok.ensures) _ _ rests some c.add.ensures.lasts

pub returns-clause-any_moment : goal.returns-clause-any_moment
returns-clause-any_moment g c header rows all counts front rests =
    added header rows c.args.row.now c.args.count counts _ (c.deref.ensures.value ∙ c.in-Ok.ensures) _ _ rests all front c.add.ensures.any_moment

pub returns-clause-lasts : goal.returns-clause-lasts
returns-clause-lasts g c header rows some counts rests =
    lasting header rows c.args.row.now c.args.count counts _ (c.deref.ensures.value ∙ c.in-Ok.ensures) _ _ rests some c.add.ensures.lasts

pub returns-clause-added : goal.returns-clause-added
returns-clause-added g c header rows counts rests =
    stands header rows c.args.row.now c.args.count counts _ (c.deref.ensures.value ∙ c.in-Ok.ensures) _ _ rests c.in_ok-add.ensures.added

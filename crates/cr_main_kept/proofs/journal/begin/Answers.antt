use Rattle.std.proofs.Common.{subst, sym}
use Rattle.cr_main_kept.specs.Kept.{BeginWith, Journals}
use Rattle.cr_main_kept.proofs.Stories.{journals_same}
use Rattle.cr_main_kept.proofs.journal.begin.Goals as goal

pub returns-in-Err-clause-journals : goal.returns-in-Err-clause-journals
returns-in-Err-clause-journals g c =
    subst (Journals (BeginWith c.args.header.now) (g.D.Outside.story c.args.disk.now)) (sym c.start.ensures.same) (journals_same (BeginWith c.args.header.now) (g.D.Outside.story c.args.disk.now))

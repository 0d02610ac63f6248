use Rattle.std.proofs.Common.{List, ℕ, Vec, subst}
use Rattle.std.specs.declared.alloc.Global.{Global}
use Rattle.cr_journal_rows.specs.Forms.{ReadsBodies}
use Rattle.cr_journal_rows.proofs.Recoveries.{fits_then, recovers}
use Rattle.cr_journal_rows.proofs.journal.recover.Goals as goal

pub returns-clause-recovered : goal.returns-clause-recovered
returns-clause-recovered g c =
    recovers (g.D.Outside.story c.args.disk.now) c.in-Ok.bodies.items c.read_bodies.result c.in-Ok.ensures.read
    (subst (λ (l : List (Vec ℕ Global)). ReadsBodies l c.read_bodies.result) c.deref.ensures.value c.read_bodies.ensures)

pub returns-clause-fits : goal.returns-clause-fits
returns-clause-fits g c =
    fits_then c.in-Ok.bodies.items c.read_bodies.result (subst (λ (l : List (Vec ℕ Global)). ReadsBodies l c.read_bodies.result) c.deref.ensures.value c.read_bodies.ensures)

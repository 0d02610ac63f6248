use Rattle.std.proofs.Common.{◌∷◌, [], List, ℕ, ◌∙◌, subst}
use Rattle.cr_outside_disk.specs.Moments.{EveryTold}
use Rattle.cr_outside_disk.proofs.Lasting.{lasts_same}
use Rattle.cr_outside_disk.proofs.Moments.{begun}
use Rattle.cr_journal_records.specs.Records.{AtRest, IsKept, Stands}
use Rattle.cr_journal_rows.proofs.journal.begin.Goals as goal

pub returns-in_default-clause-any_moment : goal.returns-in_default-clause-any_moment
returns-in_default-clause-any_moment g c all front keeps = begun (IsKept all) (g.D.Outside.story c.args.disk.now) keeps

pub returns-in_default-clause-lasts : goal.returns-in_default-clause-lasts
returns-in_default-clause-lasts g c none some = lasts_same (Stands some) (g.D.Outside.story c.args.disk.now)

pub returns-in-Ok-begin-clause-begun : goal.returns-in-Ok-begin-clause-begun
returns-in-Ok-begin-clause-begun g c =
    subst (λ (body : List ℕ). EveryTold (AtRest (body ∷ [])) (g.D.Outside.story c.begin.new.disk)) (c.deref.ensures.value ∙ c.in-Ok.ensures) c.in-Ok-begin.ensures.begun

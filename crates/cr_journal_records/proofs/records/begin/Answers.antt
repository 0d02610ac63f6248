use Rattle.std.proofs.Common.{rules, ◌≡◌, ◌∷◌, [], List, ℕ, refl, sym, ◌∙◌, ap, subst}
use Rattle.cr_journal_records.specs.Records.{AtRest, Body, IsKept}
use Rattle.cr_outside_disk.specs.Moments.{AlwaysTold, EveryTold}
use Rattle.cr_outside_disk.proofs.Moments.{goes_further}
use Rattle.cr_outside_disk.proofs.Lasting.{lasts_further}
use Rattle.cr_journal_records.specs.Records.{Stands}
use Rattle.cr_journal_records.proofs.records.begin.Goals as goal

pub returns-in_err-add-clause-any_moment : goal.returns-in_err-add-clause-any_moment
returns-in_err-add-clause-any_moment g c all is_front keeps =
    goes_further (IsKept all) _ _ _ (c.empty.ensures.any_moment all keeps) (c.add.ensures.any_moment [] all refl is_front (c.in_ok-empty.ensures.at_rest))

pub returns-clause-any_moment : goal.returns-clause-any_moment
returns-clause-any_moment g c all is_front keeps =
    goes_further (IsKept all) _ _ _ (c.empty.ensures.any_moment all keeps) (c.add.ensures.any_moment [] all refl is_front (c.in_ok-empty.ensures.at_rest))

pub returns-clause-begun : goal.returns-clause-begun
returns-clause-begun g c = c.in_ok-add.ensures.added [] refl c.in_ok-empty.ensures.at_rest

pub returns-in_err-add-clause-lasts : goal.returns-in_err-add-clause-lasts
returns-in_err-add-clause-lasts g c none some =
    lasts_further (Stands some) _ _ _ (c.empty.ensures.lasts none some) (c.add.ensures.lasts [] some refl (c.in_ok-empty.ensures.at_rest))

pub returns-clause-lasts : goal.returns-clause-lasts
returns-clause-lasts g c none some =
    lasts_further (Stands some) _ _ _ (c.empty.ensures.lasts none some) (c.add.ensures.lasts [] some refl (c.in_ok-empty.ensures.at_rest))

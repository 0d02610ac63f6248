use Rattle.std.proofs.Common.{◌≡◌, ◌∷◌, [], List, ℕ, sym, ◌∙◌, ap, subst}
use Rattle.cr_journal_records.specs.Records.{Body, IsKept}
use Rattle.cr_outside_disk.specs.Moments.{AlwaysTold, EveryTold, with_change}
use Rattle.cr_outside.specs.Story.Change.{Cut, Synced}
use Rattle.cr_outside_disk.proofs.Moments.{syncs}
use Rattle.cr_journal_records.proofs.Beginning.{after_cut, is_empty, after_gate}
use Rattle.cr_outside.specs.Story.Change.{Written}
use Rattle.cr_outside_disk.proofs.Lasting.{lasts_makes, lasts_same, lasts_syncs}
use Rattle.cr_journal_records.specs.Records.{Stands, StandsNone}
use Rattle.cr_journal_records.proofs.Standing.{none_after_cut, none_after_sync, none_stood}
use Rattle.cr_journal_records.proofs.records.empty.Goals as goal

pub returns-in_err-cut-clause-any_moment : goal.returns-in_err-cut-clause-any_moment
returns-in_err-cut-clause-any_moment g c all keeps = after_cut all _ keeps _ _ c.cut.ensures.makes

pub returns-in_err-sync-clause-any_moment : goal.returns-in_err-sync-clause-any_moment
returns-in_err-sync-clause-any_moment g c all keeps =
    syncs (IsKept all) _ _ _ _ (after_cut all _ keeps _ _ c.cut.ensures.makes) c.sync.ensures.syncs

pub returns-in_err-write-clause-any_moment : goal.returns-in_err-write-clause-any_moment
returns-in_err-write-clause-any_moment g c all keeps =
    let so_far = syncs (IsKept all) _ _ _ _ (after_cut all _ keeps _ _ c.cut.ensures.makes) c.sync.ensures.syncs in
    let told_is = c.in_ok-sync.ensures.syncs ∙ ap (with_change Synced) c.in_ok-cut.ensures.makes in
    let empty = subst (EveryTold (λ image. image ≡ [])) (sym told_is) (is_empty all _ keeps) in
    after_gate all _ keeps _ _ _ so_far empty c.write.ensures.makes

pub returns-clause-any_moment : goal.returns-clause-any_moment
returns-clause-any_moment g c all keeps =
    let so_far = syncs (IsKept all) _ _ _ _ (after_cut all _ keeps _ _ c.cut.ensures.makes) c.sync.ensures.syncs in
    let told_is = c.in_ok-sync.ensures.syncs ∙ ap (with_change Synced) c.in_ok-cut.ensures.makes in
    let empty = subst (EveryTold (λ image. image ≡ [])) (sym told_is) (is_empty all _ keeps) in
    let gate = after_gate all _ keeps _ _ _ so_far empty c.write.ensures.makes in
    syncs (IsKept all) _ _ _ _ gate c.sync-2.ensures.syncs

pub returns-in_err-cut-clause-lasts : goal.returns-in_err-cut-clause-lasts
returns-in_err-cut-clause-lasts g c none some =
    lasts_makes (Stands some) _ _ _ _ _ (lasts_same (Stands some) _) c.cut.ensures.makes (none_stood some (Cut 0) _ none)

pub returns-in_err-sync-clause-lasts : goal.returns-in_err-sync-clause-lasts
returns-in_err-sync-clause-lasts g c none some =
    lasts_syncs (Stands some) _ _ _ _ (lasts_makes (Stands some) _ _ _ _ _ (lasts_same (Stands some) _) c.cut.ensures.makes (none_stood some (Cut 0) _ none)) c.sync.ensures.syncs

pub returns-in_err-write-clause-lasts : goal.returns-in_err-write-clause-lasts
returns-in_err-write-clause-lasts g c none some =
    let told_is = c.in_ok-sync.ensures.syncs ∙ ap (with_change Synced) c.in_ok-cut.ensures.makes in
    let still = subst StandsNone (sym told_is) (none_after_sync _ (none_after_cut (g.D.Outside.story c.args.disk.now))) in
    lasts_makes (Stands some) _ _ _ _ _
    (lasts_syncs (Stands some) _ _ _ _ (lasts_makes (Stands some) _ _ _ _ _ (lasts_same (Stands some) _) c.cut.ensures.makes (none_stood some (Cut 0) _ none)) c.sync.ensures.syncs)
    c.write.ensures.makes (none_stood some (Written 0 (0 ∷ [])) _ still)

pub returns-clause-lasts : goal.returns-clause-lasts
returns-clause-lasts g c none some =
    let told_is = c.in_ok-sync.ensures.syncs ∙ ap (with_change Synced) c.in_ok-cut.ensures.makes in
    let still = subst StandsNone (sym told_is) (none_after_sync _ (none_after_cut (g.D.Outside.story c.args.disk.now))) in
    lasts_syncs (Stands some) _ _ _ _
    (lasts_makes (Stands some) _ _ _ _ _
    (lasts_syncs (Stands some) _ _ _ _ (lasts_makes (Stands some) _ _ _ _ _ (lasts_same (Stands some) _) c.cut.ensures.makes (none_stood some (Cut 0) _ none)) c.sync.ensures.syncs)
    c.write.ensures.makes (none_stood some (Written 0 (0 ∷ [])) _ still)) c.sync-2.ensures.syncs

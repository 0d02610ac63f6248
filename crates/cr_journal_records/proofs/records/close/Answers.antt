use Rattle.std.proofs.Common.{◌≡◌, sym, ◌∙◌, ap, subst}
use Rattle.cr_journal_records.specs.Records.{AtRest, IsKept}
use Rattle.cr_outside_disk.specs.Moments.{EveryTold, with_change}
use Rattle.cr_outside.specs.Story.Change.{Synced}
use Rattle.cr_outside_disk.proofs.Moments.{syncs}
use Rattle.cr_journal_records.proofs.Repairs.{gate_closed, closed_then}
use Rattle.cr_outside_disk.proofs.Lasting.{lasts_syncs}
use Rattle.cr_journal_records.specs.Records.{Stands}
use Rattle.cr_journal_records.proofs.Standing.{close_lasts}
use Rattle.cr_journal_records.proofs.records.close.Goals as goal

pub returns-in_err-write-clause-any_moment : goal.returns-in_err-write-clause-any_moment
returns-in_err-write-clause-any_moment g c bodies all counts was = gate_closed bodies all c.args.count counts _ was _ _ c.write.ensures.makes

pub returns-in_err-sync-clause-any_moment : goal.returns-in_err-sync-clause-any_moment
returns-in_err-sync-clause-any_moment g c bodies all counts was =
    syncs (IsKept all) _ _ _ _ (gate_closed bodies all c.args.count counts _ was _ _ c.write.ensures.makes) c.sync.ensures.syncs

pub returns-clause-any_moment : goal.returns-clause-any_moment
returns-clause-any_moment g c bodies all counts was =
    syncs (IsKept all) _ _ _ _ (gate_closed bodies all c.args.count counts _ was _ _ c.write.ensures.makes) c.sync.ensures.syncs

pub returns-clause-closed : goal.returns-clause-closed
returns-clause-closed g c bodies counts was =
    let told_is = c.in_ok-sync.ensures.syncs ∙ ap (with_change Synced) c.in_ok-write.ensures.makes in
    subst (EveryTold (AtRest bodies)) (sym told_is) (closed_then bodies bodies c.args.count counts _ was)

pub returns-in_err-write-clause-lasts : goal.returns-in_err-write-clause-lasts
returns-in_err-write-clause-lasts g c bodies some counts gates =
    close_lasts some bodies c.args.count counts _ _ _ gates c.write.ensures.makes

pub returns-in_err-sync-clause-lasts : goal.returns-in_err-sync-clause-lasts
returns-in_err-sync-clause-lasts g c bodies some counts gates =
    lasts_syncs (Stands some) _ _ _ _ (close_lasts some bodies c.args.count counts _ _ _ gates c.write.ensures.makes) c.sync.ensures.syncs

pub returns-clause-lasts : goal.returns-clause-lasts
returns-clause-lasts g c bodies some counts gates =
    lasts_syncs (Stands some) _ _ _ _ (close_lasts some bodies c.args.count counts _ _ _ gates c.write.ensures.makes) c.sync.ensures.syncs

use Rattle.std.proofs.Common.{◌≡◌, ◌+◌, ◌*◌, ◌++◌, ◌∷◌, [], List, ℕ, length, drop, take, refl, sym, ◌∙◌, ap, subst}
use Rattle.std.proofs.lemmas.List.{append-nil}
use Rattle.cr_journal_records.specs.Records.{AtRest, Body, IsFront, IsKept, Staged}
use Rattle.cr_outside_disk.specs.Moments.{AlwaysTold, EveryTold, Makes, with_change}
use Rattle.cr_outside.specs.Story.Change.{Written, Synced}
use Rattle.cr_outside_disk.proofs.Moments.{syncs}
use Rattle.cr_journal_records.proofs.Adding.{tail_is, at_start, behind_written, staged, gate_written, stands_then}
use Rattle.cr_outside_disk.proofs.Lasting.{lasts_same, lasts_syncs}
use Rattle.cr_journal_records.specs.Records.{Stands}
use Rattle.cr_journal_records.proofs.Standing.{behind_lasts, gate_lasts}
use Rattle.cr_journal_records.proofs.records.add.Goals as goal

pub returns-then-index-ge-MOST-clause-any_moment : goal.returns-then-index-ge-MOST-clause-any_moment
returns-then-index-ge-MOST-clause-any_moment g c bodies all counts is_front rests =
    at_start bodies all c.args.body.now c.args.index counts c.requires.body is_front (c.args.body.now ++ 0 ∷ []) refl _ rests

pub returns-in_default-clause-any_moment : goal.returns-in_default-clause-any_moment
returns-in_default-clause-any_moment g c bodies all counts is_front rests =
    at_start bodies all c.args.body.now c.args.index counts c.requires.body is_front (c.args.body.now ++ 0 ∷ []) refl _ rests

pub returns-in_err-write-clause-any_moment : goal.returns-in_err-write-clause-any_moment
returns-in_err-write-clause-any_moment g c bodies all counts is_front rests =
    let is = tail_is _ _ (c.deref.ensures.value ∙ c.in-Ok.ensures) in
    behind_written bodies all c.args.body.now c.args.index counts c.requires.body is_front _ is _ rests _ _ c.write.ensures.makes

pub returns-in_err-sync-clause-any_moment : goal.returns-in_err-sync-clause-any_moment
returns-in_err-sync-clause-any_moment g c bodies all counts is_front rests =
    let is = tail_is _ _ (c.deref.ensures.value ∙ c.in-Ok.ensures) in
    let behind = behind_written bodies all c.args.body.now c.args.index counts c.requires.body is_front _ is _ rests _ _ c.write.ensures.makes in
    syncs (IsKept all) _ _ _ _ behind c.sync.ensures.syncs

pub returns-in_err-write-2-clause-any_moment : goal.returns-in_err-write-2-clause-any_moment
returns-in_err-write-2-clause-any_moment g c bodies all counts is_front rests =
    let is = tail_is _ _ (c.deref.ensures.value ∙ c.in-Ok.ensures) in
    let behind = behind_written bodies all c.args.body.now c.args.index counts c.requires.body is_front _ is _ rests _ _ c.write.ensures.makes in
    let kept = syncs (IsKept all) _ _ _ _ behind c.sync.ensures.syncs in
    let told_is = c.in_ok-sync.ensures.syncs ∙ ap (with_change Synced) c.in_ok-write.ensures.makes in
    let stands = subst (EveryTold (Staged bodies c.args.body.now)) (sym told_is) (staged bodies all c.args.body.now c.args.index counts c.requires.body is_front _ is _ rests) in
    gate_written bodies all c.args.body.now c.args.index counts c.requires.body is_front _ is _ rests _ (ap (take 1) (c.deref-2.ensures.value ∙ c.in-Ok.ensures)) _ _ _ kept stands c.write-2.ensures.makes

pub returns-in_err-sync-2-clause-any_moment : goal.returns-in_err-sync-2-clause-any_moment
returns-in_err-sync-2-clause-any_moment g c bodies all counts is_front rests =
    let is = tail_is _ _ (c.deref.ensures.value ∙ c.in-Ok.ensures) in
    let behind = behind_written bodies all c.args.body.now c.args.index counts c.requires.body is_front _ is _ rests _ _ c.write.ensures.makes in
    let kept = syncs (IsKept all) _ _ _ _ behind c.sync.ensures.syncs in
    let told_is = c.in_ok-sync.ensures.syncs ∙ ap (with_change Synced) c.in_ok-write.ensures.makes in
    let stands = subst (EveryTold (Staged bodies c.args.body.now)) (sym told_is) (staged bodies all c.args.body.now c.args.index counts c.requires.body is_front _ is _ rests) in
    let opened = gate_written bodies all c.args.body.now c.args.index counts c.requires.body is_front _ is _ rests _ (ap (take 1) (c.deref-2.ensures.value ∙ c.in-Ok.ensures)) _ _ _ kept stands c.write-2.ensures.makes in
    syncs (IsKept all) _ _ _ _ opened c.sync-2.ensures.syncs

pub returns-clause-any_moment : goal.returns-clause-any_moment
returns-clause-any_moment g c bodies all counts is_front rests =
    let is = tail_is _ _ (c.deref.ensures.value ∙ c.in-Ok.ensures) in
    let behind = behind_written bodies all c.args.body.now c.args.index counts c.requires.body is_front _ is _ rests _ _ c.write.ensures.makes in
    let kept = syncs (IsKept all) _ _ _ _ behind c.sync.ensures.syncs in
    let told_is = c.in_ok-sync.ensures.syncs ∙ ap (with_change Synced) c.in_ok-write.ensures.makes in
    let stands = subst (EveryTold (Staged bodies c.args.body.now)) (sym told_is) (staged bodies all c.args.body.now c.args.index counts c.requires.body is_front _ is _ rests) in
    let opened = gate_written bodies all c.args.body.now c.args.index counts c.requires.body is_front _ is _ rests _ (ap (take 1) (c.deref-2.ensures.value ∙ c.in-Ok.ensures)) _ _ _ kept stands c.write-2.ensures.makes in
    syncs (IsKept all) _ _ _ _ opened c.sync-2.ensures.syncs

pub returns-clause-added : goal.returns-clause-added
returns-clause-added g c bodies counts rests =
    let body = c.args.body.now in
    let is = tail_is _ _ (c.deref.ensures.value ∙ c.in-Ok.ensures) in
    let whole = bodies ++ body ∷ [] in
    let is_front : IsFront whole whole = ([], sym (append-nil whole)) in
    let told_is = c.in_ok-sync.ensures.syncs ∙ ap (with_change Synced) c.in_ok-write.ensures.makes in
    let stands = subst (EveryTold (Staged bodies body)) (sym told_is) (staged bodies whole body c.args.index counts c.requires.body is_front _ is _ rests) in
    let told_then = c.in_ok-sync-2.ensures.syncs ∙ ap (with_change Synced) c.in_ok-write-2.ensures.makes in
    subst (EveryTold (AtRest whole)) (sym told_then) (stands_then bodies whole body c.args.index counts c.requires.body is_front _ is _ rests _ (ap (take 1) (c.deref-2.ensures.value ∙ c.in-Ok.ensures)) _ stands)

pub returns-then-index-ge-MOST-clause-lasts : goal.returns-then-index-ge-MOST-clause-lasts
returns-then-index-ge-MOST-clause-lasts g c bodies some counts rests =
    lasts_same (Stands some) _

pub returns-in_default-clause-lasts : goal.returns-in_default-clause-lasts
returns-in_default-clause-lasts g c bodies some counts rests =
    lasts_same (Stands some) _

pub returns-in_err-write-clause-lasts : goal.returns-in_err-write-clause-lasts
returns-in_err-write-clause-lasts g c bodies some counts rests =
    let is = tail_is _ _ (c.deref.ensures.value ∙ c.in-Ok.ensures) in
    behind_lasts some bodies c.args.body.now c.args.index counts c.requires.body _ is _ _ _ rests c.write.ensures.makes

pub returns-in_err-sync-clause-lasts : goal.returns-in_err-sync-clause-lasts
returns-in_err-sync-clause-lasts g c bodies some counts rests =
    let is = tail_is _ _ (c.deref.ensures.value ∙ c.in-Ok.ensures) in
    lasts_syncs (Stands some) _ _ _ _ (behind_lasts some bodies c.args.body.now c.args.index counts c.requires.body _ is _ _ _ rests c.write.ensures.makes) c.sync.ensures.syncs

pub returns-in_err-write-2-clause-lasts : goal.returns-in_err-write-2-clause-lasts
returns-in_err-write-2-clause-lasts g c bodies some counts rests =
    let is = tail_is _ _ (c.deref.ensures.value ∙ c.in-Ok.ensures) in
    let whole = bodies ++ c.args.body.now ∷ [] in
    let is_front : IsFront whole whole = ([], sym (append-nil whole)) in
    let told_is = c.in_ok-sync.ensures.syncs ∙ ap (with_change Synced) c.in_ok-write.ensures.makes in
    let stands = subst (EveryTold (Staged bodies c.args.body.now)) (sym told_is) (staged bodies whole c.args.body.now c.args.index counts c.requires.body is_front _ is _ rests) in
    gate_lasts some bodies c.args.body.now c.args.index counts c.requires.body _ (ap (take 1) (c.deref-2.ensures.value ∙ c.in-Ok.ensures)) _ _ _ _
    (lasts_syncs (Stands some) _ _ _ _ (behind_lasts some bodies c.args.body.now c.args.index counts c.requires.body _ is _ _ _ rests c.write.ensures.makes) c.sync.ensures.syncs) stands c.write-2.ensures.makes

pub returns-in_err-sync-2-clause-lasts : goal.returns-in_err-sync-2-clause-lasts
returns-in_err-sync-2-clause-lasts g c bodies some counts rests =
    let is = tail_is _ _ (c.deref.ensures.value ∙ c.in-Ok.ensures) in
    let whole = bodies ++ c.args.body.now ∷ [] in
    let is_front : IsFront whole whole = ([], sym (append-nil whole)) in
    let told_is = c.in_ok-sync.ensures.syncs ∙ ap (with_change Synced) c.in_ok-write.ensures.makes in
    let stands = subst (EveryTold (Staged bodies c.args.body.now)) (sym told_is) (staged bodies whole c.args.body.now c.args.index counts c.requires.body is_front _ is _ rests) in
    lasts_syncs (Stands some) _ _ _ _
    (gate_lasts some bodies c.args.body.now c.args.index counts c.requires.body _ (ap (take 1) (c.deref-2.ensures.value ∙ c.in-Ok.ensures)) _ _ _ _
    (lasts_syncs (Stands some) _ _ _ _ (behind_lasts some bodies c.args.body.now c.args.index counts c.requires.body _ is _ _ _ rests c.write.ensures.makes) c.sync.ensures.syncs) stands c.write-2.ensures.makes) c.sync-2.ensures.syncs

pub returns-clause-lasts : goal.returns-clause-lasts
returns-clause-lasts g c bodies some counts rests =
    let is = tail_is _ _ (c.deref.ensures.value ∙ c.in-Ok.ensures) in
    let whole = bodies ++ c.args.body.now ∷ [] in
    let is_front : IsFront whole whole = ([], sym (append-nil whole)) in
    let told_is = c.in_ok-sync.ensures.syncs ∙ ap (with_change Synced) c.in_ok-write.ensures.makes in
    let stands = subst (EveryTold (Staged bodies c.args.body.now)) (sym told_is) (staged bodies whole c.args.body.now c.args.index counts c.requires.body is_front _ is _ rests) in
    lasts_syncs (Stands some) _ _ _ _
    (gate_lasts some bodies c.args.body.now c.args.index counts c.requires.body _ (ap (take 1) (c.deref-2.ensures.value ∙ c.in-Ok.ensures)) _ _ _ _
    (lasts_syncs (Stands some) _ _ _ _ (behind_lasts some bodies c.args.body.now c.args.index counts c.requires.body _ is _ _ _ rests c.write.ensures.makes) c.sync.ensures.syncs) stands c.write-2.ensures.makes) c.sync-2.ensures.syncs

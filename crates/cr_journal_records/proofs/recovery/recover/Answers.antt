use Rattle.std.proofs.Common.{◌≡◌, List, ℕ, Vec, length, arith, refl, sym, ◌∙◌, ap, subst}
use Rattle.std.proofs.lemmas.List.{length-map}
use Rattle.std.specs.declared.alloc.Global.{Global}
use Rattle.cr_journal_records.specs.Records.{Body, IsKept}
use Rattle.cr_outside_disk.specs.Moments.{AlwaysTold, EveryTold}
use Rattle.cr_outside_disk.proofs.Moments.{begun, syncs, holds_now, goes_further}
use Rattle.cr_journal_records.specs.Reading.{IsSettled, ReadsTold, bodies_of}
use Rattle.cr_journal_records.proofs.Readings.{settled_now, read_before, some_bodies}
use Rattle.cr_outside_disk.specs.Moments.{LastsTold}
use Rattle.cr_outside_disk.proofs.Lasting.{lasts_further, lasts_same, lasts_syncs}
use Rattle.cr_journal_records.specs.Records.{Stands}
use Rattle.cr_journal_records.proofs.recovery.recover.Goals as goal

pub returns-then-len-ge-MOST-clause-any_moment : goal.returns-then-len-ge-MOST-clause-any_moment
returns-then-len-ge-MOST-clause-any_moment g c all keeps = begun (IsKept all) _ keeps

pub returns-in_err-sync-clause-any_moment : goal.returns-in_err-sync-clause-any_moment
returns-in_err-sync-clause-any_moment g c all keeps = syncs (IsKept all) _ _ _ _ (begun (IsKept all) _ keeps) c.sync.ensures.syncs

pub returns-in_err-bodies-clause-any_moment : goal.returns-in_err-bodies-clause-any_moment
returns-in_err-bodies-clause-any_moment g c all keeps =
    subst (λ told. AlwaysTold (IsKept all) (g.D.Outside.story c.args.disk.now) told) (sym c.read_bodies.ensures.same) (syncs (IsKept all) _ _ _ _ (begun (IsKept all) _ keeps) c.sync.ensures.syncs)

pub returns-in_err-repair-clause-any_moment : goal.returns-in_err-repair-clause-any_moment
returns-in_err-repair-clause-any_moment g c all keeps =
    let so_far = subst (λ told. AlwaysTold (IsKept all) (g.D.Outside.story c.args.disk.now) told) (sym c.read_bodies.ensures.same) (syncs (IsKept all) _ _ _ _ (begun (IsKept all) _ keeps) c.sync.ensures.syncs) in
    let settled = subst IsSettled (sym (c.read_bodies.ensures.same ∙ c.in_ok-sync.ensures.syncs)) (settled_now (g.D.Outside.story c.args.disk.now)) in
    let reads = subst (λ t. ReadsTold t (bodies_of c.in_ok-bodies.bodies.items)) (sym c.read_bodies.ensures.same) c.in_ok-bodies.ensures.read in
    goes_further (IsKept all) _ _ _ so_far
    (c.repair.ensures.any_moment (bodies_of c.in_ok-bodies.bodies.items) all (omega (arith, length-map c.in_ok-bodies.bodies.items (λ (v : Vec ℕ Global). v.items), c.len.ensures)) settled reads (holds_now (IsKept all) _ _ so_far))

pub returns-clause-any_moment : goal.returns-clause-any_moment
returns-clause-any_moment g c all keeps =
    let so_far = subst (λ told. AlwaysTold (IsKept all) (g.D.Outside.story c.args.disk.now) told) (sym c.read_bodies.ensures.same) (syncs (IsKept all) _ _ _ _ (begun (IsKept all) _ keeps) c.sync.ensures.syncs) in
    let settled = subst IsSettled (sym (c.read_bodies.ensures.same ∙ c.in_ok-sync.ensures.syncs)) (settled_now (g.D.Outside.story c.args.disk.now)) in
    let reads = subst (λ t. ReadsTold t (bodies_of c.in_ok-bodies.bodies.items)) (sym c.read_bodies.ensures.same) c.in_ok-bodies.ensures.read in
    goes_further (IsKept all) _ _ _ so_far
    (c.repair.ensures.any_moment (bodies_of c.in_ok-bodies.bodies.items) all (omega (arith, length-map c.in_ok-bodies.bodies.items (λ (v : Vec ℕ Global). v.items), c.len.ensures)) settled reads (holds_now (IsKept all) _ _ so_far))

pub returns-clause-read : goal.returns-clause-read
returns-clause-read g c =
    read_before (g.D.Outside.story c.args.disk.now) (bodies_of c.in_ok-bodies.bodies.items)
    (subst (λ t. ReadsTold t (bodies_of c.in_ok-bodies.bodies.items)) c.in_ok-sync.ensures.syncs c.in_ok-bodies.ensures.read)

pub returns-clause-rests : goal.returns-clause-rests
returns-clause-rests g c some =
    let settled = subst IsSettled (sym (c.read_bodies.ensures.same ∙ c.in_ok-sync.ensures.syncs)) (settled_now (g.D.Outside.story c.args.disk.now)) in
    let reads = subst (λ t. ReadsTold t (bodies_of c.in_ok-bodies.bodies.items)) (sym c.read_bodies.ensures.same) c.in_ok-bodies.ensures.read in
    c.in_ok-repair.ensures.rests (bodies_of c.in_ok-bodies.bodies.items) (omega (arith, length-map c.in_ok-bodies.bodies.items (λ (v : Vec ℕ Global). v.items), c.len.ensures)) settled reads (some_bodies c.in_ok-bodies.bodies.items some)

pub returns-then-len-ge-MOST-clause-lasts : goal.returns-then-len-ge-MOST-clause-lasts
returns-then-len-ge-MOST-clause-lasts g c some =
    lasts_same (Stands some) _

pub returns-in_err-sync-clause-lasts : goal.returns-in_err-sync-clause-lasts
returns-in_err-sync-clause-lasts g c some =
    lasts_syncs (Stands some) _ _ _ _ (lasts_same (Stands some) _) c.sync.ensures.syncs

pub returns-in_err-bodies-clause-lasts : goal.returns-in_err-bodies-clause-lasts
returns-in_err-bodies-clause-lasts g c some =
    subst (λ told. LastsTold (Stands some) (g.D.Outside.story c.args.disk.now) told) (sym c.read_bodies.ensures.same) (lasts_syncs (Stands some) _ _ _ _ (lasts_same (Stands some) _) c.sync.ensures.syncs)

pub returns-in_err-repair-clause-lasts : goal.returns-in_err-repair-clause-lasts
returns-in_err-repair-clause-lasts g c some =
    let settled = subst IsSettled (sym (c.read_bodies.ensures.same ∙ c.in_ok-sync.ensures.syncs)) (settled_now (g.D.Outside.story c.args.disk.now)) in
    let reads = subst (λ t. ReadsTold t (bodies_of c.in_ok-bodies.bodies.items)) (sym c.read_bodies.ensures.same) c.in_ok-bodies.ensures.read in
    lasts_further (Stands some) _ _ _ (subst (λ told. LastsTold (Stands some) (g.D.Outside.story c.args.disk.now) told) (sym c.read_bodies.ensures.same) (lasts_syncs (Stands some) _ _ _ _ (lasts_same (Stands some) _) c.sync.ensures.syncs))
    (c.repair.ensures.lasts (bodies_of c.in_ok-bodies.bodies.items) some (omega (arith, length-map c.in_ok-bodies.bodies.items (λ (v : Vec ℕ Global). v.items), c.len.ensures)) settled reads)

pub returns-clause-lasts : goal.returns-clause-lasts
returns-clause-lasts g c some =
    let settled = subst IsSettled (sym (c.read_bodies.ensures.same ∙ c.in_ok-sync.ensures.syncs)) (settled_now (g.D.Outside.story c.args.disk.now)) in
    let reads = subst (λ t. ReadsTold t (bodies_of c.in_ok-bodies.bodies.items)) (sym c.read_bodies.ensures.same) c.in_ok-bodies.ensures.read in
    lasts_further (Stands some) _ _ _ (subst (λ told. LastsTold (Stands some) (g.D.Outside.story c.args.disk.now) told) (sym c.read_bodies.ensures.same) (lasts_syncs (Stands some) _ _ _ _ (lasts_same (Stands some) _) c.sync.ensures.syncs))
    (c.repair.ensures.lasts (bodies_of c.in_ok-bodies.bodies.items) some (omega (arith, length-map c.in_ok-bodies.bodies.items (λ (v : Vec ℕ Global). v.items), c.len.ensures)) settled reads)

pub returns-clause-still : goal.returns-clause-still
returns-clause-still g c =
    let settled = subst IsSettled (sym (c.read_bodies.ensures.same ∙ c.in_ok-sync.ensures.syncs)) (settled_now (g.D.Outside.story c.args.disk.now)) in
    let reads = subst (λ t. ReadsTold t (bodies_of c.in_ok-bodies.bodies.items)) (sym c.read_bodies.ensures.same) c.in_ok-bodies.ensures.read in
    c.in_ok-repair.ensures.still (bodies_of c.in_ok-bodies.bodies.items) (omega (arith, length-map c.in_ok-bodies.bodies.items (λ (v : Vec ℕ Global). v.items), c.len.ensures)) reads settled

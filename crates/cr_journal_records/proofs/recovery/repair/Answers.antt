use Rattle.std.proofs.Common.{◌≡◌, ◌≢◌, ◌*◌, ◌∷◌, [], List, ℕ, length, refl, sym, ◌∙◌, ap, subst, arith}
use Rattle.cr_journal_records.specs.Records.{AtRest, Body, HasGate, IsKept}
use Rattle.cr_outside_disk.specs.Moments.{AlwaysTold, EveryTold, HasLength}
use Rattle.cr_outside_disk.proofs.Moments.{begun}
use Rattle.cr_journal_records.proofs.Readings.{missing, shut_there, torn_there, both, rest_reads}
use Rattle.cr_journal_records.specs.Reading.{ReadsTold}
use Rattle.cr_outside_disk.specs.Moments.{LastsTold}
use Rattle.cr_outside_disk.proofs.Lasting.{lasts_same}
use Rattle.cr_journal_records.specs.Records.{Stands}
use Rattle.cr_journal_records.proofs.recovery.repair.Goals as goal

pub returns-then-count-len-clause-rests : goal.returns-then-count-len-clause-rests
returns-then-count-len-clause-rests g c bodies counts settled reads some =
    let long = subst (λ n. HasLength (g.D.Outside.story c.args.disk.now) n) c.requires.size (g.met.D.Disk.has_length c.args.disk.now c.requires.ready) in
    missing bodies c.args.count c.args.len counts (g.D.Outside.story c.args.disk.now) long (omega (arith, c.if-count-len.true)) reads some

pub returns-then-count-len-clause-any_moment : goal.returns-then-count-len-clause-any_moment
returns-then-count-len-clause-any_moment g c bodies all counts settled reads keeps = begun (IsKept all) (g.D.Outside.story c.args.disk.now) keeps

pub returns-in_err-read-clause-any_moment : goal.returns-in_err-read-clause-any_moment
returns-in_err-read-clause-any_moment g c bodies all counts settled reads keeps =
    subst (λ told. AlwaysTold (IsKept all) (g.D.Outside.story c.args.disk.now) told) (sym c.read.ensures.same) (begun (IsKept all) (g.D.Outside.story c.args.disk.now) keeps)

pub returns-then-gate-eq0-clause-any_moment : goal.returns-then-gate-eq0-clause-any_moment
returns-then-gate-eq0-clause-any_moment g c bodies all counts settled reads keeps =
    subst (λ told. AlwaysTold (IsKept all) (g.D.Outside.story c.args.disk.now) told) (sym c.read.ensures.same) (begun (IsKept all) (g.D.Outside.story c.args.disk.now) keeps)

pub returns-then-gate-eq0-clause-rests : goal.returns-then-gate-eq0-clause-rests
returns-then-gate-eq0-clause-rests g c bodies counts settled reads some =
    let told = g.D.Outside.story c.args.disk.now in
    let long = subst (λ n. HasLength told n) c.requires.size (g.met.D.Disk.has_length c.args.disk.now c.requires.ready) in
    subst (λ t. EveryTold (AtRest bodies) t) (sym c.read.ensures.same)
    (shut_there bodies c.args.count c.args.len counts told c.read.new.into long (omega (arith, c.if-count-len.false)) settled reads c.in_ok-read.ensures.gives (omega (arith, c.if-gate-eq0.true)))

pub returns-in_err-close-clause-any_moment : goal.returns-in_err-close-clause-any_moment
returns-in_err-close-clause-any_moment g c bodies all counts settled reads keeps =
    let told = g.D.Outside.story c.args.disk.now in
    let long = subst (λ n. HasLength told n) c.requires.size (g.met.D.Disk.has_length c.args.disk.now c.requires.ready) in
    let gate = torn_there bodies c.args.count c.args.len counts told c.read.new.into long (omega (arith, c.if-count-len.false)) settled reads c.in_ok-read.ensures.gives (λ none. omega (arith, c.if-gate-eq0.false, none)) in
    subst (λ t. AlwaysTold (IsKept all) t (g.D.Outside.story c.close.new.disk)) c.read.ensures.same
    (c.close.ensures.any_moment bodies all counts (subst (λ t. EveryTold (λ image. IsKept all image × HasGate bodies image) t) (sym c.read.ensures.same) (both (IsKept all) (HasGate bodies) told keeps gate)))

pub returns-clause-any_moment : goal.returns-clause-any_moment
returns-clause-any_moment g c bodies all counts settled reads keeps =
    let told = g.D.Outside.story c.args.disk.now in
    let long = subst (λ n. HasLength told n) c.requires.size (g.met.D.Disk.has_length c.args.disk.now c.requires.ready) in
    let gate = torn_there bodies c.args.count c.args.len counts told c.read.new.into long (omega (arith, c.if-count-len.false)) settled reads c.in_ok-read.ensures.gives (λ none. omega (arith, c.if-gate-eq0.false, none)) in
    subst (λ t. AlwaysTold (IsKept all) t (g.D.Outside.story c.close.new.disk)) c.read.ensures.same
    (c.close.ensures.any_moment bodies all counts (subst (λ t. EveryTold (λ image. IsKept all image × HasGate bodies image) t) (sym c.read.ensures.same) (both (IsKept all) (HasGate bodies) told keeps gate)))

pub returns-clause-rests : goal.returns-clause-rests
returns-clause-rests g c bodies counts settled reads some =
    let told = g.D.Outside.story c.args.disk.now in
    let long = subst (λ n. HasLength told n) c.requires.size (g.met.D.Disk.has_length c.args.disk.now c.requires.ready) in
    let gate = torn_there bodies c.args.count c.args.len counts told c.read.new.into long (omega (arith, c.if-count-len.false)) settled reads c.in_ok-read.ensures.gives (λ none. omega (arith, c.if-gate-eq0.false, none)) in
    c.in_ok-close.ensures.closed bodies counts (subst (λ t. EveryTold (HasGate bodies) t) (sym c.read.ensures.same) gate)

pub returns-then-count-len-clause-lasts : goal.returns-then-count-len-clause-lasts
returns-then-count-len-clause-lasts g c bodies some counts settled reads =
    lasts_same (Stands some) _

pub returns-in_err-read-clause-lasts : goal.returns-in_err-read-clause-lasts
returns-in_err-read-clause-lasts g c bodies some counts settled reads =
    subst (λ told. LastsTold (Stands some) (g.D.Outside.story c.args.disk.now) told) (sym c.read.ensures.same) (lasts_same (Stands some) _)

pub returns-then-gate-eq0-clause-lasts : goal.returns-then-gate-eq0-clause-lasts
returns-then-gate-eq0-clause-lasts g c bodies some counts settled reads =
    subst (λ told. LastsTold (Stands some) (g.D.Outside.story c.args.disk.now) told) (sym c.read.ensures.same) (lasts_same (Stands some) _)

pub returns-in_err-close-clause-lasts : goal.returns-in_err-close-clause-lasts
returns-in_err-close-clause-lasts g c bodies some counts settled reads =
    let told = g.D.Outside.story c.args.disk.now in
    let long = subst (λ n. HasLength told n) c.requires.size (g.met.D.Disk.has_length c.args.disk.now c.requires.ready) in
    let gate = torn_there bodies c.args.count c.args.len counts told c.read.new.into long (omega (arith, c.if-count-len.false)) settled reads c.in_ok-read.ensures.gives (λ none. omega (arith, c.if-gate-eq0.false, none)) in
    subst (λ t. LastsTold (Stands some) t (g.D.Outside.story c.close.new.disk)) c.read.ensures.same
    (c.close.ensures.lasts bodies some counts (subst (λ t. EveryTold (HasGate bodies) t) (sym c.read.ensures.same) gate))

pub returns-clause-lasts : goal.returns-clause-lasts
returns-clause-lasts g c bodies some counts settled reads =
    let told = g.D.Outside.story c.args.disk.now in
    let long = subst (λ n. HasLength told n) c.requires.size (g.met.D.Disk.has_length c.args.disk.now c.requires.ready) in
    let gate = torn_there bodies c.args.count c.args.len counts told c.read.new.into long (omega (arith, c.if-count-len.false)) settled reads c.in_ok-read.ensures.gives (λ none. omega (arith, c.if-gate-eq0.false, none)) in
    subst (λ t. LastsTold (Stands some) t (g.D.Outside.story c.close.new.disk)) c.read.ensures.same
    (c.close.ensures.lasts bodies some counts (subst (λ t. EveryTold (HasGate bodies) t) (sym c.read.ensures.same) gate))

pub returns-then-gate-eq0-clause-still : goal.returns-then-gate-eq0-clause-still
returns-then-gate-eq0-clause-still g c bodies counts reads settled = subst (λ t. ReadsTold t bodies) (sym c.read.ensures.same) reads

pub returns-clause-still : goal.returns-clause-still
returns-clause-still g c bodies counts reads settled =
    let told = g.D.Outside.story c.args.disk.now in
    let long = subst (λ n. HasLength told n) c.requires.size (g.met.D.Disk.has_length c.args.disk.now c.requires.ready) in
    let gate = torn_there bodies c.args.count c.args.len counts told c.read.new.into long (omega (arith, c.if-count-len.false)) settled reads c.in_ok-read.ensures.gives (λ none. omega (arith, c.if-gate-eq0.false, none)) in
    rest_reads bodies _ (c.in_ok-close.ensures.closed bodies counts (subst (λ t. EveryTold (HasGate bodies) t) (sym c.read.ensures.same) gate))

use Rattle.std.proofs.Common.{◌++◌, [], ◌∷◌, ℕ, Option, Some, None, set, refl, sym, ap, subst, ◌∙◌, inl, inr, arith}
use Rattle.cr_core.specs.declared.marks.HitKind.{HitKind}
use Rattle.cr_core.specs.declared.marks.Mark.TheVariants.{No, Hit, Skipped}
use Rattle.cr_core.specs.Row.{Row, last_mark}
use Rattle.cr_claims.specs.declared.view.View.{View}
use Rattle.cr_core.specs.Machine.{settled}
use Rattle.cr_claims.specs.Pass.{len_of, view_of}
use Rattle.cr_outside.specs.Question.{Says}
use Rattle.cr_pool.specs.declared.trial.Trial.TheVariants as trial
use Rattle.cr_pool.specs.Epoch.{BeginsRight, Epoch}
use Rattle.cr_pool.specs.Jobs.{epoch_of}
use Rattle.cr_pool.specs.Tally.{Tally, tally_of}
use Rattle.cr_pool.specs.Works.{HitSays, MayNoteNothing, NoteIsSo, NotesTell, RejectsAt, Tries, Works}
use Rattle.cr_pool.proofs.Lists.{append-some, less_left, marked_at, may_leave_at, open_at}
use Rattle.std.proofs.lemmas.List.{length-set}
use Rattle.cr_pool.proofs.Works.{asks_goes_on, blank_above, notes_more, notes_none, same_hit, says_earlier, skips_neither, tells_more, tells_none, tells_skips, works_more, works_none, works_skips, yes_is_noted}
use Rattle.cr_pool.proofs.worker.drive.Goals as goal

pub loop-at-init : goal.loop-at-init
loop-at-init g c =
    let e : Epoch = epoch_of g.P.Passes g.L.Law g.Q.Question c.args.job.now (g.J.Judge.says (g.J.Judge.key c.args.judge.now)) c.args.verdicts.now in
    let first : Tally = tally_of g.J.Judge c.args.judge.now in
    record {
      stays = c.requires.of;
      in_force = c.requires.fresh.1;
      may = ((λ is_open. let none = ap last_mark c.requires.fresh.0 in cc), inl c.requires.fresh.0);
      works = subst (λ l. Works e first first None l) (sym c.requires.fresh.0) (works_none e first);
      room = c.requires.blank.0;
      notes = notes_none e first first c.args.job.now.len c.args.notes.now.items c.requires.blank;
      tell = subst (λ l. NotesTell e l c.args.notes.now.items) (sym c.requires.fresh.0) (tells_none e c.args.notes.now.items);
      above = λ i _. c.requires.blank.1 i;
      key = refl;
      silent = λ _. refl;
    }

pub try_position-requires-clause-within : goal.try_position-requires-clause-within
try_position-requires-clause-within g c = (c.in-Some.ensures.claimed c.in-Some.at refl).0

pub try_position-requires-clause-is_open : goal.try_position-requires-clause-is_open
try_position-requires-clause-is_open g c =
    (open_at (view_of c.next.new.pass).own (settled c.loop-at.done (view_of c.loop-at.pass).own) c.in-Some.at (c.in-Some.ensures.claimed c.in-Some.at refl).1).0

pub try_position-requires-clause-right : goal.try_position-requires-clause-right
try_position-requires-clause-right g c =
    let e : Says → Epoch = λ says. epoch_of g.P.Passes g.L.Law g.Q.Question c.args.job.now says c.args.verdicts.now in
    subst (λ says. BeginsRight (e says)) (sym (ap g.J.Judge.says c.loop-at.invariant.key)) c.requires.right

pub index_mut-note-requires : goal.index_mut-note-requires
index_mut-note-requires g c = omega (arith, (c.in-Some.ensures.claimed c.in-Some.at refl).0, c.loop-at.invariant.room)

pub loop-at-smaller : goal.loop-at-smaller
loop-at-smaller g c =
    let claimed = c.in-Some.ensures.claimed c.in-Some.at refl in
    less_left c.args.job.now.len c.in-Some.at (view_of c.try_position.new.pass).own (settled c.loop-at.done (view_of c.loop-at.pass).own) (view_of c.loop-at.pass).own
    (c.try_position.ensures.same.0 ∙ claimed.1) claimed.0 claimed.3

pub loop-at-preserved : goal.loop-at-preserved
loop-at-preserved g c =
    let claimed = c.in-Some.ensures.claimed c.in-Some.at refl in
    let own = c.try_position.ensures.same.0 ∙ claimed.1 in
    let before = settled c.loop-at.done (view_of c.loop-at.pass).own in
    let now_open = open_at (view_of c.try_position.new.pass).own before c.in-Some.at own in
    let e : Says → Epoch = λ says. epoch_of g.P.Passes g.L.Law g.Q.Question c.args.job.now says c.args.verdicts.now in
    let first : Tally = tally_of g.J.Judge c.args.judge.now in
    let middle : Tally = tally_of g.J.Judge c.loop-at.judge in
    let now : Tally = tally_of g.J.Judge c.try_position.new.judge in
    let here = e (g.J.Judge.says (g.J.Judge.key c.args.judge.now)) in
    let key = ap g.J.Judge.says c.loop-at.invariant.key in
    let tries : Tries here middle now c.in-Some.at = subst (λ says. Tries (e says) middle now c.in-Some.at) key c.try_position.ensures.tries in
    record {
      stays = c.try_position.ensures.stays;
      in_force = c.try_position.ensures.same.1 ∙ claimed.2;
      may = ((now_open.0, omega (arith, now_open.1, claimed.0)), inr (omega (arith, now_open.1, claimed.0)));
      works = subst (λ l. Works here first now None l) (sym (marked_at (view_of c.try_position.new.pass).own before c.in-Some.at No own))
          (works_more here first middle now None before c.in-Some.at No claimed.0 (λ is_open. cc)
          (λ _. subst (λ says. RejectsAt (e says) middle now c.in-Some.at) key (c.in-Rejected.ensures.rejected refl)) (λ k is. cc) c.loop-at.invariant.works
          (subst (λ says. Tries (e says) middle now c.in-Some.at) key c.try_position.ensures.tries));
      room = length-set c.loop-at.notes.items c.in-Some.at c.try_position.new.note ∙ c.loop-at.invariant.room;
      notes = notes_more here first middle now c.loop-at.notes.items c.in-Some.at c.try_position.new.note (asks_goes_on here c.loop-at.invariant.works.positions first.calls middle.calls c.loop-at.invariant.works.calls)
          (asks_goes_on here tries.positions middle.calls now.calls tries.calls) c.loop-at.invariant.notes (subst (λ says. NoteIsSo (e says) middle now c.in-Some.at c.try_position.new.note) key c.try_position.ensures.noted);
      tell = subst (λ l. NotesTell here l (set c.loop-at.notes.items c.in-Some.at c.try_position.new.note)) (sym (marked_at (view_of c.try_position.new.pass).own before c.in-Some.at No own))
          (tells_more here before c.loop-at.notes.items c.in-Some.at No c.try_position.new.note (omega (arith, claimed.0, c.loop-at.invariant.room)) (c.loop-at.invariant.above c.in-Some.at claimed.3)
          c.loop-at.invariant.tell (λ _ none. subst (λ says. MayNoteNothing (e says) c.in-Some.at trial.Rejected) key (c.in-Rejected.ensures.unnoted none)));
      above = blank_above before (view_of c.loop-at.pass).own (view_of c.try_position.new.pass).own c.loop-at.notes.items c.in-Some.at c.try_position.new.note own claimed.3 c.loop-at.invariant.above;
      key = c.try_position.ensures.key ∙ c.loop-at.invariant.key;
      silent = λ quiet. c.try_position.ensures.silent quiet ∙ c.loop-at.invariant.silent quiet;
    }

pub leave-requires-clause-may : goal.leave-requires-clause-may
leave-requires-clause-may g c =
    let claimed = c.in-Some.ensures.claimed c.in-Some.at refl in
    let own = c.try_position.ensures.same.0 ∙ claimed.1 in
    let before = settled c.loop-at.done (view_of c.loop-at.pass).own in
    let now_open = open_at (view_of c.try_position.new.pass).own before c.in-Some.at own in
    may_leave_at (len_of c.args.claims.now) (view_of c.try_position.new.pass).read (view_of c.try_position.new.pass).own before c.in-Some.at own
    (inr (omega (arith, now_open.1, c.in-Stopped.ensures.stopped refl)))

pub returns-in-Stopped-clause-left : goal.returns-in-Stopped-clause-left
returns-in-Stopped-clause-left g c =
    let claimed = c.in-Some.ensures.claimed c.in-Some.at refl in
    let own = c.try_position.ensures.same.0 ∙ claimed.1 in
    let before = settled c.loop-at.done (view_of c.loop-at.pass).own in
    let marked = marked_at (view_of c.try_position.new.pass).own before c.in-Some.at Skipped own in
    (ap (λ (v : View). v.left) c.leave.ensures.view, λ none. append-some before (record { position = c.in-Some.at; mark = Skipped }) (sym (ap (λ (v : View). v.own) c.leave.ensures.view ∙ marked) ∙ none))

pub returns-in-Stopped-clause-works : goal.returns-in-Stopped-clause-works
returns-in-Stopped-clause-works g c =
    let claimed = c.in-Some.ensures.claimed c.in-Some.at refl in
    let own = c.try_position.ensures.same.0 ∙ claimed.1 in
    let before = settled c.loop-at.done (view_of c.loop-at.pass).own in
    let e : Says → Epoch = λ says. epoch_of g.P.Passes g.L.Law g.Q.Question c.args.job.now says c.args.verdicts.now in
    let first : Tally = tally_of g.J.Judge c.args.judge.now in
    let middle : Tally = tally_of g.J.Judge c.loop-at.judge in
    let now : Tally = tally_of g.J.Judge c.try_position.new.judge in
    let here = e (g.J.Judge.says (g.J.Judge.key c.args.judge.now)) in
    let key = ap g.J.Judge.says c.loop-at.invariant.key in
    let marked = marked_at (view_of c.try_position.new.pass).own before c.in-Some.at Skipped own in
    subst (λ l. Works here first now None l) (sym (ap (λ (v : View). v.own) c.leave.ensures.view ∙ marked))
    (works_more here first middle now None before c.in-Some.at Skipped claimed.0 (λ is_open. cc) (λ is. cc) (λ k is. cc) c.loop-at.invariant.works
    (subst (λ says. Tries (e says) middle now c.in-Some.at) key c.try_position.ensures.tries))

pub strike-requires-clause-may : goal.strike-requires-clause-may
strike-requires-clause-may g c =
    let claimed = c.in-Some.ensures.claimed c.in-Some.at refl in
    let own = c.try_position.ensures.same.0 ∙ claimed.1 in
    let before = settled c.loop-at.done (view_of c.loop-at.pass).own in
    let now_open = open_at (view_of c.try_position.new.pass).own before c.in-Some.at own in
    (now_open.0, omega (arith, now_open.1, claimed.0, c.requires.len))

pub returns-in-Hit-clause-works : goal.returns-in-Hit-clause-works
returns-in-Hit-clause-works g c =
    let claimed = c.in-Some.ensures.claimed c.in-Some.at refl in
    let own = c.try_position.ensures.same.0 ∙ claimed.1 in
    let before = settled c.loop-at.done (view_of c.loop-at.pass).own in
    let e : Says → Epoch = λ says. epoch_of g.P.Passes g.L.Law g.Q.Question c.args.job.now says c.args.verdicts.now in
    let first : Tally = tally_of g.J.Judge c.args.judge.now in
    let middle : Tally = tally_of g.J.Judge c.loop-at.judge in
    let now : Tally = tally_of g.J.Judge c.try_position.new.judge in
    let here = e (g.J.Judge.says (g.J.Judge.key c.args.judge.now)) in
    let key = ap g.J.Judge.says c.loop-at.invariant.key in
    let hit = Hit c.in-Hit.kind in
    let marked = c.strike.ensures.own.1 ∙ ap (λ (l : Row). l ++ record { position = c.strike.ensures.own.0; mark = Skipped } ∷ []) (marked_at (view_of c.try_position.new.pass).own before c.in-Some.at hit own) in
    let it : Option (ℕ × HitKind) = Some (c.in-Some.at, c.in-Hit.kind) in
    subst (λ l. Works here first now it l) (sym marked)
    (works_skips here first now it (before ++ record { position = c.in-Some.at; mark = hit } ∷ []) c.strike.ensures.own.0
    (works_more here first middle now it before c.in-Some.at hit claimed.0 (λ is_open. cc) (λ is. cc) (λ k is. ap (λ (j : HitKind). Some (c.in-Some.at, j)) (same_hit c.in-Hit.kind k is)) c.loop-at.invariant.works
    (subst (λ says. Tries (e says) middle now c.in-Some.at) key c.try_position.ensures.tries)))

pub returns-in-Hit-clause-hit : goal.returns-in-Hit-clause-hit
returns-in-Hit-clause-hit g c =
    let claimed = c.in-Some.ensures.claimed c.in-Some.at refl in
    let e : Says → Epoch = λ says. epoch_of g.P.Passes g.L.Law g.Q.Question c.args.job.now says c.args.verdicts.now in
    let first : Tally = tally_of g.J.Judge c.args.judge.now in
    let middle : Tally = tally_of g.J.Judge c.loop-at.judge in
    let now : Tally = tally_of g.J.Judge c.try_position.new.judge in
    let here = e (g.J.Judge.says (g.J.Judge.key c.args.judge.now)) in
    let key = ap g.J.Judge.says c.loop-at.invariant.key in
    let works = c.loop-at.invariant.works in (
      claimed.0,
      says_earlier here first middle now c.try_position.new.variant.items c.in-Some.at c.in-Hit.kind (asks_goes_on here works.positions first.calls middle.calls works.calls) works.later
          (subst (λ says. HitSays (e says) middle now c.try_position.new.variant.items c.in-Some.at c.in-Hit.kind) key (c.in-Hit.ensures.hit c.in-Hit.kind refl)),
    )

pub returns-clause-works : goal.returns-clause-works
returns-clause-works g c =
    let e : Epoch = epoch_of g.P.Passes g.L.Law g.Q.Question c.args.job.now (g.J.Judge.says (g.J.Judge.key c.args.judge.now)) c.args.verdicts.now in
    let first : Tally = tally_of g.J.Judge c.args.judge.now in
    let now : Tally = tally_of g.J.Judge c.loop-at.judge in
    let left = (c.in_default.ensures.left refl).1 in
    subst (λ l. Works e first now None l) (sym left.1) (works_skips e first now None (settled c.loop-at.done (view_of c.loop-at.pass).own) left.0 c.loop-at.invariant.works)

pub strike-requires-clause-in_force : goal.strike-requires-clause-in_force
strike-requires-clause-in_force g c = c.try_position.ensures.same.1 ∙ (c.in-Some.ensures.claimed c.in-Some.at refl).2

pub returns-in-Stopped-clause-notes : goal.returns-in-Stopped-clause-notes
returns-in-Stopped-clause-notes g c =
    let e : Says → Epoch = λ says. epoch_of g.P.Passes g.L.Law g.Q.Question c.args.job.now says c.args.verdicts.now in
    let first : Tally = tally_of g.J.Judge c.args.judge.now in
    let middle : Tally = tally_of g.J.Judge c.loop-at.judge in
    let now : Tally = tally_of g.J.Judge c.try_position.new.judge in
    let here = e (g.J.Judge.says (g.J.Judge.key c.args.judge.now)) in
    let key = ap g.J.Judge.says c.loop-at.invariant.key in
    let works = c.loop-at.invariant.works in
    let tries : Tries here middle now c.in-Some.at = subst (λ says. Tries (e says) middle now c.in-Some.at) key c.try_position.ensures.tries in
    notes_more here first middle now c.loop-at.notes.items c.in-Some.at c.try_position.new.note (asks_goes_on here works.positions first.calls middle.calls works.calls)
    (asks_goes_on here tries.positions middle.calls now.calls tries.calls) c.loop-at.invariant.notes (subst (λ says. NoteIsSo (e says) middle now c.in-Some.at c.try_position.new.note) key c.try_position.ensures.noted)

pub returns-in-Hit-clause-notes : goal.returns-in-Hit-clause-notes
returns-in-Hit-clause-notes g c =
    let e : Says → Epoch = λ says. epoch_of g.P.Passes g.L.Law g.Q.Question c.args.job.now says c.args.verdicts.now in
    let first : Tally = tally_of g.J.Judge c.args.judge.now in
    let middle : Tally = tally_of g.J.Judge c.loop-at.judge in
    let now : Tally = tally_of g.J.Judge c.try_position.new.judge in
    let here = e (g.J.Judge.says (g.J.Judge.key c.args.judge.now)) in
    let key = ap g.J.Judge.says c.loop-at.invariant.key in
    let works = c.loop-at.invariant.works in
    let tries : Tries here middle now c.in-Some.at = subst (λ says. Tries (e says) middle now c.in-Some.at) key c.try_position.ensures.tries in
    notes_more here first middle now c.loop-at.notes.items c.in-Some.at c.try_position.new.note (asks_goes_on here works.positions first.calls middle.calls works.calls)
    (asks_goes_on here tries.positions middle.calls now.calls tries.calls) c.loop-at.invariant.notes (subst (λ says. NoteIsSo (e says) middle now c.in-Some.at c.try_position.new.note) key c.try_position.ensures.noted)

pub returns-in-Stopped-clause-tell : goal.returns-in-Stopped-clause-tell
returns-in-Stopped-clause-tell g c =
    let claimed = c.in-Some.ensures.claimed c.in-Some.at refl in
    let own = c.try_position.ensures.same.0 ∙ claimed.1 in
    let before = settled c.loop-at.done (view_of c.loop-at.pass).own in
    let here : Epoch = epoch_of g.P.Passes g.L.Law g.Q.Question c.args.job.now (g.J.Judge.says (g.J.Judge.key c.args.judge.now)) c.args.verdicts.now in
    let notes = set c.loop-at.notes.items c.in-Some.at c.try_position.new.note in
    let marked = marked_at (view_of c.try_position.new.pass).own before c.in-Some.at Skipped own in
    subst (λ l. NotesTell here l notes) (sym (ap (λ (v : View). v.own) c.leave.ensures.view ∙ marked))
    (tells_more here before c.loop-at.notes.items c.in-Some.at Skipped c.try_position.new.note (omega (arith, claimed.0, c.loop-at.invariant.room)) (c.loop-at.invariant.above c.in-Some.at claimed.3)
    c.loop-at.invariant.tell (λ marks. absurd (skips_neither marks)))

pub returns-in-Hit-clause-tell : goal.returns-in-Hit-clause-tell
returns-in-Hit-clause-tell g c =
    let claimed = c.in-Some.ensures.claimed c.in-Some.at refl in
    let own = c.try_position.ensures.same.0 ∙ claimed.1 in
    let before = settled c.loop-at.done (view_of c.loop-at.pass).own in
    let e : Says → Epoch = λ says. epoch_of g.P.Passes g.L.Law g.Q.Question c.args.job.now says c.args.verdicts.now in
    let here = e (g.J.Judge.says (g.J.Judge.key c.args.judge.now)) in
    let key = ap g.J.Judge.says c.loop-at.invariant.key in
    let hit = Hit c.in-Hit.kind in
    let notes = set c.loop-at.notes.items c.in-Some.at c.try_position.new.note in
    let marked = c.strike.ensures.own.1 ∙ ap (λ (l : Row). l ++ record { position = c.strike.ensures.own.0; mark = Skipped } ∷ []) (marked_at (view_of c.try_position.new.pass).own before c.in-Some.at hit own) in
    subst (λ l. NotesTell here l notes) (sym marked)
    (tells_skips here (before ++ record { position = c.in-Some.at; mark = hit } ∷ []) notes c.strike.ensures.own.0
    (tells_more here before c.loop-at.notes.items c.in-Some.at hit c.try_position.new.note (omega (arith, claimed.0, c.loop-at.invariant.room)) (c.loop-at.invariant.above c.in-Some.at claimed.3)
    c.loop-at.invariant.tell (λ marks none. absurd (yes_is_noted here c.in-Some.at c.in-Hit.kind marks (subst (λ says. MayNoteNothing (e says) c.in-Some.at (trial.Hit c.in-Hit.kind)) key (c.in-Hit.ensures.unnoted none))))))

pub returns-clause-tell : goal.returns-clause-tell
returns-clause-tell g c =
    let e : Epoch = epoch_of g.P.Passes g.L.Law g.Q.Question c.args.job.now (g.J.Judge.says (g.J.Judge.key c.args.judge.now)) c.args.verdicts.now in
    let left = (c.in_default.ensures.left refl).1 in
    subst (λ l. NotesTell e l c.loop-at.notes.items) (sym left.1) (tells_skips e (settled c.loop-at.done (view_of c.loop-at.pass).own) c.loop-at.notes.items left.0 c.loop-at.invariant.tell)

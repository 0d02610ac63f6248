use Rattle.std.proofs.Common.{◌≡◌, ◌∙◌, ◌+◌, ◌<◌, ◌≤◌, ℕ, List, [], inr, length, slice_index_or, sym, ap, subst, All, Result, Ok, Err, OnOk, false, arith}
use Rattle.std.specs.Prelude.{is_err}
use Rattle.cr_claims.specs.Pass.{held, view_of}
use Rattle.cr_core.specs.declared.events.First.TheVariants as firsts
use Rattle.cr_core.specs.declared.marks.HitKind.{HitKind}
use Rattle.cr_core.specs.Row.{Row, under}
use Rattle.cr_core.specs.Sound.{Sum, total}
use Rattle.cr_core.specs.State.{IsFirst}
use Rattle.cr_pool.specs.declared.crew.Worker.{Worker}
use Rattle.cr_pool.specs.Crew.{IsSameButPass, judges_in, rows_of}
use Rattle.cr_pool.specs.Endings.{TakesNotes, decided_at}
use Rattle.cr_pool.specs.Epoch.{BeginsRight, EndsBy, Epoch, Remembers}
use Rattle.cr_outside.specs.Question.{Says}
use Rattle.cr_pool.specs.Jobs.{IsJudged, epoch_of}
use Rattle.cr_pool.specs.Tally.{HaveOneKey, first_says, tallies_of}
use Rattle.cr_pool.specs.Works.{IsBlank}
use Rattle.cr_pool.proofs.Crews.{ends, have_decided, hitter, judged, nothing_judged, nothing_open, remembered, same_judges, says_each}
use Rattle.cr_pool.proofs.Remembering.{as_before}
use Rattle.cr_pool.proofs.epoch.try_all.Goals as goal

cleared_all : {T E : Type 0} (r : Result T E) (P : Type 0) → is_err r ≡ false → OnOk r P → P
cleared_all (Ok x) P not it = it
cleared_all (Err e) P not it = cc

pub returns-then-is_err-clause-judges : goal.returns-then-is_err-clause-judges
returns-then-is_err-clause-judges g c =
    let old = judges_in c.args.workers.now in
    let e : Epoch = epoch_of g.P.Passes g.L.Law g.Q.Question c.args.job.now (first_says g.J.Judge.key g.J.Judge.says old) c.args.verdicts.now in
    subst (λ judges. IsJudged g.J.Judge e old judges) (sym (same_judges c.args.workers.now c.clear.new.workers c.clear.auto.workers c.clear.ensures.judges)) (nothing_judged g.J.Judge e old)

pub returns-in-Err-clause-judges : goal.returns-in-Err-clause-judges
returns-in-Err-clause-judges g c =
    let old = judges_in c.args.workers.now in
    let e : Epoch = epoch_of g.P.Passes g.L.Law g.Q.Question c.args.job.now (first_says g.J.Judge.key g.J.Judge.says old) c.args.verdicts.now in
    subst (λ judges. IsJudged g.J.Judge e old judges) (sym (same_judges c.args.workers.now c.clear.new.workers c.clear.auto.workers c.clear.ensures.judges)) (nothing_judged g.J.Judge e old)

pub gather-requires-clause-rests : goal.gather-requires-clause-rests
gather-requires-clause-rests g c = λ k d below. (c.run.ensures k d (omega (arith, below, c.run.auto.workers))).rests

pub close-first-requires-clause-done : goal.close-first-requires-clause-done
close-first-requires-clause-done g c =
    let judges = same_judges c.clear.new.workers c.seat.new.workers c.seat.auto.workers c.seat.ensures.judges ∙ same_judges c.args.workers.now c.clear.new.workers c.clear.auto.workers c.clear.ensures.judges in
    let one_key : HaveOneKey g.J.Judge.key (judges_in c.seat.new.workers) = subst (HaveOneKey g.J.Judge.key) (sym judges) c.requires.one_key in
    let taken : (k : ℕ) (d : Worker g.row.J.Denot) → k < length c.seat.new.workers → IsSameButPass (slice_index_or c.run.new.workers k d) (slice_index_or c.gather.new.workers k d) =
    λ k d below. c.gather.ensures.same k d (omega (arith, below, c.run.auto.workers)) in
    let sum : Sum = held (view_of c.gather.new.keeper) in
    let sums : (f : Row → ℕ) → sum f ≡ f [] + total f (rows_of c.run.new.workers) = λ f. omega (arith, c.gather.ensures.counts f, c.seat.ensures.nothing f) in
    record {
      nothing_is_open = nothing_open g.P.Passes g.L.Law g.Q.Question g.J.Judge c.args.job.now c.in-Ok.opened.0 c.args.verdicts.now c.seat.new.workers c.run.new.workers c.gather.new.workers c.run.auto.workers (c.gather.auto.workers ∙ c.run.auto.workers) one_key c.run.ensures taken sum sums;
      one_left = inr (0, c.gather.ensures.one);
    }

pub end_of-requires-clause-hit : goal.end_of-requires-clause-hit
end_of-requires-clause-hit g c = λ at kind is.
    let judges = same_judges c.clear.new.workers c.seat.new.workers c.seat.auto.workers c.seat.ensures.judges ∙ same_judges c.args.workers.now c.clear.new.workers c.clear.auto.workers c.clear.ensures.judges in
    let one_key : HaveOneKey g.J.Judge.key (judges_in c.seat.new.workers) = subst (HaveOneKey g.J.Judge.key) (sym judges) c.requires.one_key in
    let taken : (k : ℕ) (d : Worker g.row.J.Denot) → k < length c.seat.new.workers → IsSameButPass (slice_index_or c.run.new.workers k d) (slice_index_or c.gather.new.workers k d) =
    λ k d below. c.gather.ensures.same k d (omega (arith, below, c.run.auto.workers)) in
    let sum : Sum = held (view_of c.gather.new.keeper) in
    let sums : (f : Row → ℕ) → sum f ≡ f [] + total f (rows_of c.run.new.workers) = λ f. omega (arith, c.gather.ensures.counts f, c.seat.ensures.nothing f) in
    let len = c.in-Ok.ensures.1 in
    let first : IsFirst c.args.job.now.len sum c.close-first.result = subst (λ n. IsFirst n sum c.close-first.result) len c.close-first.ensures.first in
    let it = hitter g.P.Passes g.L.Law g.Q.Question g.J.Judge c.args.job.now c.in-Ok.opened.0 c.args.verdicts.now c.seat.new.workers c.run.new.workers c.gather.new.workers c.run.auto.workers (c.gather.auto.workers ∙ c.run.auto.workers) one_key c.run.ensures taken sum sums at kind c.close-first.result first is in
    (omega (arith, it.0, c.requires.placed.fits), it.1)

pub returns-clause-end : goal.returns-clause-end
returns-clause-end g c =
    let judges = same_judges c.clear.new.workers c.seat.new.workers c.seat.auto.workers c.seat.ensures.judges ∙ same_judges c.args.workers.now c.clear.new.workers c.clear.auto.workers c.clear.ensures.judges in
    let one_key : HaveOneKey g.J.Judge.key (judges_in c.seat.new.workers) = subst (HaveOneKey g.J.Judge.key) (sym judges) c.requires.one_key in
    let taken : (k : ℕ) (d : Worker g.row.J.Denot) → k < length c.seat.new.workers → IsSameButPass (slice_index_or c.run.new.workers k d) (slice_index_or c.gather.new.workers k d) =
    λ k d below. c.gather.ensures.same k d (omega (arith, below, c.run.auto.workers)) in
    let sum : Sum = held (view_of c.gather.new.keeper) in
    let sums : (f : Row → ℕ) → sum f ≡ f [] + total f (rows_of c.run.new.workers) = λ f. omega (arith, c.gather.ensures.counts f, c.seat.ensures.nothing f) in
    let len = c.in-Ok.ensures.1 in
    let first : IsFirst c.args.job.now.len sum c.close-first.result = subst (λ n. IsFirst n sum c.close-first.result) len c.close-first.ensures.first in
    let left = same_judges c.gather.new.workers c.end_of.new.workers c.end_of.auto.workers c.end_of.ensures.judges
    ∙ same_judges c.run.new.workers c.gather.new.workers c.gather.auto.workers (λ k d below. (c.gather.ensures.same k d below).judge) in
    let e : List g.row.J.Denot → Epoch = λ js. epoch_of g.P.Passes g.L.Law g.Q.Question c.args.job.now (first_says g.J.Judge.key g.J.Judge.says js) c.args.verdicts.now in
    let it = ends g.P.Passes g.L.Law g.Q.Question g.J.Judge c.args.job.now c.in-Ok.opened.0 c.args.verdicts.now c.seat.new.workers c.run.new.workers c.gather.new.workers c.run.auto.workers (c.gather.auto.workers ∙ c.run.auto.workers) one_key c.run.ensures taken sum sums c.close-first.result c.end_of.result first c.end_of.ensures.end in
    subst (λ js. EndsBy (e js) (tallies_of g.J.Judge js) (tallies_of g.J.Judge (judges_in c.end_of.new.workers)) c.end_of.result) judges
    (subst (λ js. EndsBy (e (judges_in c.seat.new.workers)) (tallies_of g.J.Judge (judges_in c.seat.new.workers)) (tallies_of g.J.Judge js) c.end_of.result) (sym left) it)

pub returns-clause-judges : goal.returns-clause-judges
returns-clause-judges g c =
    let judges = same_judges c.clear.new.workers c.seat.new.workers c.seat.auto.workers c.seat.ensures.judges ∙ same_judges c.args.workers.now c.clear.new.workers c.clear.auto.workers c.clear.ensures.judges in
    let one_key : HaveOneKey g.J.Judge.key (judges_in c.seat.new.workers) = subst (HaveOneKey g.J.Judge.key) (sym judges) c.requires.one_key in
    let taken : (k : ℕ) (d : Worker g.row.J.Denot) → k < length c.seat.new.workers → IsSameButPass (slice_index_or c.run.new.workers k d) (slice_index_or c.gather.new.workers k d) =
    λ k d below. c.gather.ensures.same k d (omega (arith, below, c.run.auto.workers)) in
    let sum : Sum = held (view_of c.gather.new.keeper) in
    let sums : (f : Row → ℕ) → sum f ≡ f [] + total f (rows_of c.run.new.workers) = λ f. omega (arith, c.gather.ensures.counts f, c.seat.ensures.nothing f) in
    let left = same_judges c.gather.new.workers c.end_of.new.workers c.end_of.auto.workers c.end_of.ensures.judges
    ∙ same_judges c.run.new.workers c.gather.new.workers c.gather.auto.workers (λ k d below. (c.gather.ensures.same k d below).judge) in
    let e : List g.row.J.Denot → Epoch = λ js. epoch_of g.P.Passes g.L.Law g.Q.Question c.args.job.now (first_says g.J.Judge.key g.J.Judge.says js) c.args.verdicts.now in
    let few = (let P : ℕ → Type 0 = λ n. sum (under n) ≤ n in subst P c.in-Ok.ensures.1 c.close-first.ensures.few) in
    let it = judged g.P.Passes g.L.Law g.Q.Question g.J.Judge c.args.job.now c.in-Ok.opened.0 c.args.verdicts.now c.seat.new.workers c.run.new.workers c.gather.new.workers c.run.auto.workers (c.gather.auto.workers ∙ c.run.auto.workers) one_key c.run.ensures taken sum sums c.close-first.ensures.once few in
    subst (λ js. IsJudged g.J.Judge (e js) js (judges_in c.end_of.new.workers)) judges
    (subst (λ js. IsJudged g.J.Judge (e (judges_in c.seat.new.workers)) (judges_in c.seat.new.workers) js) (sym left) it)

pub run-requires-clause-ready : goal.run-requires-clause-ready
run-requires-clause-ready g c = λ a b. λ k d below.
    let judges = same_judges c.clear.new.workers c.seat.new.workers c.seat.auto.workers c.seat.ensures.judges ∙ same_judges c.args.workers.now c.clear.new.workers c.clear.auto.workers c.clear.ensures.judges in
    let one_key : HaveOneKey g.J.Judge.key (judges_in c.seat.new.workers) = subst (HaveOneKey g.J.Judge.key) (sym judges) c.requires.one_key in
    let e : Says → Epoch = λ says. epoch_of g.P.Passes g.L.Law g.Q.Question c.args.job.now says c.args.verdicts.now in
    let seated = slice_index_or c.seat.new.workers k d in
    let cleared : k < length c.clear.new.workers = omega (arith, below, c.seat.auto.workers) in
    let right = subst (λ js. BeginsRight (e (first_says g.J.Judge.key g.J.Judge.says js))) (sym judges) c.requires.right in
    record {
      pass = c.seat.ensures.fresh k d below;
      blank = subst (λ notes. IsBlank c.args.job.now.len notes) (ap (λ notes. notes.items) (sym (c.seat.ensures.notes k d cleared))) (cleared_all c.clear.result (All (λ (w : Worker g.row.J.Denot). IsBlank c.args.job.now.len w.notes.items) c.clear.new.workers) (sym c.is_err.ensures.value ∙ c.if-is_err.false) c.clear.ensures.blank k d cleared);
      right = subst (λ says. BeginsRight (e says)) (sym (says_each g.J.Judge c.seat.new.workers k d one_key below)) right;
    }

pub decided-requires : goal.decided-requires
decided-requires g c = λ at kind is.
    let judges = same_judges c.clear.new.workers c.seat.new.workers c.seat.auto.workers c.seat.ensures.judges ∙ same_judges c.args.workers.now c.clear.new.workers c.clear.auto.workers c.clear.ensures.judges in
    let one_key : HaveOneKey g.J.Judge.key (judges_in c.seat.new.workers) = subst (HaveOneKey g.J.Judge.key) (sym judges) c.requires.one_key in
    let taken : (k : ℕ) (d : Worker g.row.J.Denot) → k < length c.seat.new.workers → IsSameButPass (slice_index_or c.run.new.workers k d) (slice_index_or c.gather.new.workers k d) =
    λ k d below. c.gather.ensures.same k d (omega (arith, below, c.run.auto.workers)) in
    let sum : Sum = held (view_of c.gather.new.keeper) in
    let sums : (f : Row → ℕ) → sum f ≡ f [] + total f (rows_of c.run.new.workers) = λ f. omega (arith, c.gather.ensures.counts f, c.seat.ensures.nothing f) in
    let len = c.in-Ok.ensures.1 in
    let first : IsFirst c.args.job.now.len sum c.close-first.result = subst (λ n. IsFirst n sum c.close-first.result) len c.close-first.ensures.first in
    (hitter g.P.Passes g.L.Law g.Q.Question g.J.Judge c.args.job.now c.in-Ok.opened.0 c.args.verdicts.now c.seat.new.workers c.run.new.workers c.gather.new.workers c.run.auto.workers (c.gather.auto.workers ∙ c.run.auto.workers) one_key c.run.ensures taken sum sums at kind c.close-first.result first is).0

pub returns-clause-remembers : goal.returns-clause-remembers
returns-clause-remembers g c =
    let judges = same_judges c.clear.new.workers c.seat.new.workers c.seat.auto.workers c.seat.ensures.judges ∙ same_judges c.args.workers.now c.clear.new.workers c.clear.auto.workers c.clear.ensures.judges in
    let one_key : HaveOneKey g.J.Judge.key (judges_in c.seat.new.workers) = subst (HaveOneKey g.J.Judge.key) (sym judges) c.requires.one_key in
    let taken : (k : ℕ) (d : Worker g.row.J.Denot) → k < length c.seat.new.workers → IsSameButPass (slice_index_or c.run.new.workers k d) (slice_index_or c.gather.new.workers k d) =
    λ k d below. c.gather.ensures.same k d (omega (arith, below, c.run.auto.workers)) in
    let sum : Sum = held (view_of c.gather.new.keeper) in
    let sums : (f : Row → ℕ) → sum f ≡ f [] + total f (rows_of c.run.new.workers) = λ f. omega (arith, c.gather.ensures.counts f, c.seat.ensures.nothing f) in
    let len = c.in-Ok.ensures.1 in
    let first : IsFirst c.args.job.now.len sum c.close-first.result = subst (λ n. IsFirst n sum c.close-first.result) len c.close-first.ensures.first in
    let left = same_judges c.gather.new.workers c.end_of.new.workers c.end_of.auto.workers c.end_of.ensures.judges
    ∙ same_judges c.run.new.workers c.gather.new.workers c.gather.auto.workers (λ k d below. (c.gather.ensures.same k d below).judge) in
    let e : List g.row.J.Denot → Epoch = λ js. epoch_of g.P.Passes g.L.Law g.Q.Question c.args.job.now (first_says g.J.Judge.key g.J.Judge.says js) c.args.verdicts.now in
    let end = c.end_of.result in
    let kept = c.remember.new.verdicts in
    let lost = c.remember.result in
    let seated = judges_in c.seat.new.workers in
    let within : (at : ℕ) (kind : HitKind) → c.close-first.result ≡ firsts.At at kind → at < c.args.job.now.len = λ at kind is.
    (hitter g.P.Passes g.L.Law g.Q.Question g.J.Judge c.args.job.now c.in-Ok.opened.0 c.args.verdicts.now c.seat.new.workers c.run.new.workers c.gather.new.workers c.run.auto.workers (c.gather.auto.workers ∙ c.run.auto.workers) one_key c.run.ensures taken sum sums at kind c.close-first.result first is).0 in
    let decided = have_decided (e seated) c.gather.new.workers c.close-first.result end within c.end_of.ensures.end in
    let takes : TakesNotes (e seated).offer (e seated).start (decided_at c.args.job.now.len c.close-first.result) c.gather.new.workers c.args.verdicts.now kept lost =
    subst (λ n. TakesNotes (e seated).offer (e seated).start n c.gather.new.workers c.args.verdicts.now kept lost) c.decided.ensures.is c.remember.ensures in
    let it = remembered g.P.Passes g.L.Law g.Q.Question g.J.Judge c.args.job.now c.in-Ok.opened.0 c.args.verdicts.now c.seat.new.workers c.run.new.workers c.gather.new.workers c.run.auto.workers (c.gather.auto.workers ∙ c.run.auto.workers) one_key c.run.ensures taken sum sums c.close-first.result first end decided kept lost takes in
    subst (λ js. Remembers (e js) (tallies_of g.J.Judge js) (tallies_of g.J.Judge (judges_in c.end_of.new.workers)) end kept lost) judges
    (subst (λ js. Remembers (e seated) (tallies_of g.J.Judge seated) (tallies_of g.J.Judge js) end kept lost) (sym left) it)

pub returns-then-is_err-clause-remembers : goal.returns-then-is_err-clause-remembers
returns-then-is_err-clause-remembers g c =
    let e : Epoch = epoch_of g.P.Passes g.L.Law g.Q.Question c.args.job.now (first_says g.J.Judge.key g.J.Judge.says (judges_in c.args.workers.now)) c.args.verdicts.now in
    as_before e (tallies_of g.J.Judge (judges_in c.args.workers.now)) (tallies_of g.J.Judge (judges_in c.clear.new.workers))

pub returns-in-Err-clause-remembers : goal.returns-in-Err-clause-remembers
returns-in-Err-clause-remembers g c =
    let e : Epoch = epoch_of g.P.Passes g.L.Law g.Q.Question c.args.job.now (first_says g.J.Judge.key g.J.Judge.says (judges_in c.args.workers.now)) c.args.verdicts.now in
    as_before e (tallies_of g.J.Judge (judges_in c.args.workers.now)) (tallies_of g.J.Judge (judges_in c.clear.new.workers))

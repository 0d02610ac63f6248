-- What holds of a run whose task is made from the bytes read, from what it comes to: it is the run of the task of these bytes.
use Rattle.std.proofs.Common.{◌≡◌, inl, inr, ℕ, Bool, true, false, List, Option, sym, ap, subst, ◌∙◌, arith}
use Rattle.cr_outside.specs.Story.{EndsWithFault, GoesOn, Story}
use Rattle.cr_outside.specs.declared.story.Outcome.{Outcome}
use Rattle.cr_outside.specs.declared.story.Outcome.TheVariants as outcome
use Rattle.cr_outside.proofs.Stories.{goes_nowhere}
use Rattle.cr_reduce.specs.Bench.{Judging}
use Rattle.cr_reduce.specs.Bound.{HasLevels}
use Rattle.cr_reduce.specs.Ends.{FaultsWithCause}
use Rattle.cr_reduce.specs.declared.end.End.{End}
use Rattle.cr_main_task.specs.Bound.{AsksBound, BoundEnded, HasAllBound, HasReducedBound, KeepsBound, PromisesBound}
use Rattle.cr_main_task.specs.Bound.AsksBound.{bound_asks, bound_asks_nothing}
use Rattle.cr_main_task.specs.Bound.BoundEnded.{bound_finished, bound_untested}
use Rattle.cr_main_task.specs.Bound.KeepsBound.{bound_kept, bound_unchanged}
use Rattle.cr_main_task.specs.Headline.{HasAll}
use Rattle.cr_main_task.specs.Headline.TaskEnded.{finished, untested}
use Rattle.cr_main_task.specs.Opening.{IsOpened, Ruled, RunsBound, read_of}
use Rattle.cr_main_task.specs.Opening.RunsBound.{not_opened, on_bytes}
use Rattle.cr_main_task.specs.Opening.Unopened.{not_there, ruled_out, unopened, unread}
use Rattle.cr_main_task.specs.Outside.{Outside}
use Rattle.cr_main_task.specs.Run.{Claiming, IsToldReduction, RunsBy, by_epochs}
use Rattle.cr_main_task.specs.Story.{KeepsJournal, journal_told}
use Rattle.cr_main_task.specs.Task.{Task, Text, given}
use Rattle.cr_main_task.proofs.Askings.{task_asks}
use Rattle.cr_main_task.proofs.Calls.{task_faults}
use Rattle.cr_main_task.proofs.Completing.{IsFree, task_free}
use Rattle.cr_main_task.proofs.Endings.{IsLate, task_ends}
use Rattle.cr_main_task.proofs.Headlines.{IsDone, task_done}
use Rattle.cr_main_task.proofs.Journals.{task_keeps_journal}
use Rattle.cr_main_task.proofs.Keeping.{task_keeps}
use Rattle.cr_main_task.proofs.Reading.{opened_run}
use Rattle.cr_main_task.proofs.Unfailing.{task_never_fails}
use Rattle.cr_main_task.proofs.Unopened.{unopened_fault, unopened_files, unopened_is_not, unopened_journal}

module _ (law : Ruled) (at : List ℕ → Task) (By : List ℕ → Claiming) (name : List ℕ) (text : Text) (old new : Outside) (before after : Judging) (status : ℕ) where
  on_task : (bytes : List ℕ) (read : Outside) → IsOpened law text old read bytes → RunsBy (at bytes) (By bytes) (given bytes) read new before after status
      → RunsBy (at bytes) (By bytes) (read_of text bytes) old new before after status
  on_task bytes read opened run = opened_run law (at bytes) (By bytes) bytes text old read new opened before after status run

  bound_keeps : RunsBound law at By name text old new before after status → KeepsBound at By text old new after
  bound_keeps (not_opened why quiet) = bound_unchanged (unopened_files law name text old new status why)
  bound_keeps (on_bytes bytes read opened run) = bound_kept bytes opened.has (task_keeps (at bytes) (By bytes) (read_of text bytes) old new before after status (on_task bytes read opened run))

  -- what is claimed is the told reduction, and makes no call on the outside
  module _ (told_of : (bytes : List ℕ) (since now : Judging) (read : List ℕ) (end : End) → (By bytes).Claims since now read end → IsToldReduction (at bytes) read end)
      (silent : (bytes : List ℕ) (first last : Option Story) → (By bytes).Tells first last → last ≡ first)
      (goes_on : (end : Outcome) (first last : Option Story) → text.Opens end first last → GoesOn first last)
      (fails : (first last : Option Story) → text.Opens outcome.Failed first last → EndsWithFault first last)
      (keeps : (end : Outcome) (first last : Option Story) → text.Opens end first last → KeepsJournal first last) where
    bound_done : RunsBound law at By name text old new before after status → IsDone status → HasReducedBound at By text old new before after status
    bound_done (not_opened why quiet) (inl done) =
        absurd (unopened_is_not law name text old new status 0 (λ e. omega (arith, e)) (λ e. omega (arith, e)) (λ e. omega (arith, e)) (λ e. omega (arith, e)) (λ e. omega (arith, e)) why done)
    bound_done (not_opened why quiet) (inr done) =
        absurd (unopened_is_not law name text old new status 7 (λ e. omega (arith, e)) (λ e. omega (arith, e)) (λ e. omega (arith, e)) (λ e. omega (arith, e)) (λ e. omega (arith, e)) why done)
    bound_done (on_bytes bytes read opened run) done = record {
      bytes = bytes;
      has = opened.has;
      reduced = task_done (at bytes) (By bytes) (told_of bytes) (read_of text bytes) old new status done before after (on_task bytes read opened run);
    }

    bound_ends : RunsBound law at By name text old new before after status → IsLate status → BoundEnded at text old new status
    bound_ends (not_opened why quiet) (inl late) =
        absurd (unopened_is_not law name text old new status 8 (λ e. omega (arith, e)) (λ e. omega (arith, e)) (λ e. omega (arith, e)) (λ e. omega (arith, e)) (λ e. omega (arith, e)) why late)
    bound_ends (not_opened why quiet) (inr late) =
        absurd (unopened_is_not law name text old new status 10 (λ e. omega (arith, e)) (λ e. omega (arith, e)) (λ e. omega (arith, e)) (λ e. omega (arith, e)) (λ e. omega (arith, e)) why late)
    bound_ends (on_bytes bytes read opened run) late =
        elim (task_ends (at bytes) (By bytes) (told_of bytes) (read_of text bytes) old new status late before after (on_task bytes read opened run)) [
          | untested eight files ↦ bound_untested eight files
          | finished it ↦ bound_finished bytes opened.has it
        ]

    bound_faults : RunsBound law at By name text old new before after status → status ≡ 9 → EndsWithFault old.story new.story
    bound_faults (not_opened why quiet) nine = unopened_fault law name text old new status fails nine why
    bound_faults (on_bytes bytes read opened run) nine =
        task_faults (at bytes) (By bytes) (read_of text bytes) (λ a b tells. subst (GoesOn a) (sym (silent bytes a b tells)) (goes_nowhere a)) goes_on fails old new status nine before after
        (on_task bytes read opened run)

    bound_journal : RunsBound law at By name text old new before after status → KeepsJournal old.story new.story
    bound_journal (not_opened why quiet) = unopened_journal law name text old new status keeps why
    bound_journal (on_bytes bytes read opened run) =
        task_keeps_journal (at bytes) (By bytes) (read_of text bytes) (λ a b tells. ap journal_told (silent bytes a b tells)) keeps old new before after status (on_task bytes read opened run)

    pub bound_promises : RunsBound law at By name text old new before after status → PromisesBound at By text old new before after status
    bound_promises run = record {
      headline = bound_done run;
      finished = bound_ends run;
      files_kept = bound_keeps run;
      fault_last = bound_faults run;
      journal_kept = bound_journal run;
    }

  -- each fault has its cause
  module _ (cause_of : (bytes : List ℕ) (since now : Judging) (read : List ℕ) (end : End) → (By bytes).Claims since now read end → FaultsWithCause (at bytes).search since now end.why) where
    -- where no judge is asked, it doesn't end with 8
    pub bound_never_fails : ((bytes : List ℕ) → (at bytes).search.asks ≡ false) → RunsBound law at By name text old new before after status → status ≡ 8 → ⊥
    bound_never_fails quiet (not_opened why none) eight =
        unopened_is_not law name text old new status 8 (λ e. omega (arith, e)) (λ e. omega (arith, e)) (λ e. omega (arith, e)) (λ e. omega (arith, e)) (λ e. omega (arith, e)) why eight
    bound_never_fails quiet (on_bytes bytes read opened run) eight =
        task_never_fails (at bytes) (By bytes) (cause_of bytes) (quiet bytes) (read_of text bytes) old new before after status eight (on_task bytes read opened run)

    -- with all that it needs it ends with 0, or for want of memory
    pub bound_free : (told_of : (bytes : List ℕ) (since now : Judging) (read : List ℕ) (end : End) → (By bytes).Claims since now read end → IsToldReduction (at bytes) read end)
        (lawful_of : (bytes file : List ℕ) → (at bytes).search.Lawful file → law.Lawful file) (levels : ℕ → ℕ) → ((bytes : List ℕ) → HasLevels (at bytes).search.Offers levels)
        → ((bytes file : List ℕ) → (at bytes).search.Tells file true → (at bytes).search.Tells file false → ⊥)
        → HasAllBound levels at text old new before after → RunsBound law at By name text old new before after status → IsFree status
    bound_free told_of lawful_of levels has apart all (not_opened (not_there lacks files calls said) quiet) = absurd (all.2.here lacks)
    bound_free told_of lawful_of levels has apart all (not_opened (ruled_out reason b there unlawful against files calls said) quiet) =
        absurd (unlawful (subst law.Lawful (sym (all.2.there b there)) (lawful_of all.0 all.2.bytes all.2.lawful)))
    bound_free told_of lawful_of levels has apart all (not_opened (unread rose files calls said) quiet) = absurd (all.2.no_file_fault rose)
    bound_free told_of lawful_of levels has apart all (not_opened (unopened files calls mute is) quiet) = inr is
    bound_free told_of lawful_of levels has apart all (on_bytes b read opened run) =
        let bytes = all.0 in
        let it = all.2 in
        let same : b ≡ bytes = it.there b opened.has ∙ sym (it.there bytes all.1) in
        let here : HasAll levels (at bytes) (read_of text bytes) old new before after = record {
          bytes = it.bytes;
          there = λ other is. is ∙ it.there bytes all.1;
          here = λ never. never;
          lawful = it.lawful;
          all_told = it.all_told;
          yes = it.yes;
          no_file_fault = it.no_file_fault;
          no_output_fault = it.no_output_fault;
          no_judge_fault = it.no_judge_fault;
          enough = it.enough;
        } in
        task_free (at bytes) (By bytes) (told_of bytes) (cause_of bytes) (read_of text bytes) old new before after levels here (has bytes) (apart bytes) status
        (subst (λ x. RunsBy (at x) (By x) (read_of text x) old new before after status) same (on_task b read opened run))

-- what the test is asked, where variants are tried by epochs
pub bound_asks_only : (law : Ruled) (at : List ℕ → Task) (name : List ℕ) (text : Text) (old new : Outside) (before after : Judging) (status : ℕ)
    → RunsBound law at (λ bytes. by_epochs (at bytes)) name text old new before after status → AsksBound at text before after
bound_asks_only law at name text old new before after status (not_opened why quiet) = bound_asks_nothing quiet
bound_asks_only law at name text old new before after status (on_bytes bytes read opened run) =
    bound_asks bytes opened.has (task_asks (at bytes) (read_of text bytes) old new before after status
    (on_task law at (λ b. by_epochs (at b)) name text old new before after status bytes read opened run))

-- What a run promises, from what it comes to: each is a lemma about its task, or of a run that does nothing.
use Rattle.std.proofs.Common.{◌≡◌, inl, inr, ℕ, Bool, false, List, Option, sym, ap, subst, ◌∙◌, arith}
use Rattle.cr_outside.specs.Files.{Names}
use Rattle.cr_outside.specs.Question.{Says as Telling}
use Rattle.cr_outside.specs.Story.{EndsWithFault, GoesOn, Story}
use Rattle.cr_outside.specs.Test.{one_test_answer}
use Rattle.cr_outside.specs.declared.story.Outcome.{Outcome}
use Rattle.cr_outside.specs.declared.story.Outcome.TheVariants.{Failed}
use Rattle.cr_outside.proofs.Stories.{goes_nowhere}
use Rattle.pass_list.specs.Offers.{Offers, levels_on}
use Rattle.pass_list.specs.OfferLaws.{few_variants, none_on}
use Rattle.cr_reduce.specs.Bench.{Judging}
use Rattle.cr_reduce.specs.Bound.{HasLevels}
use Rattle.cr_reduce.specs.declared.end.End.{End}
use Rattle.cr_main_task.specs.Headline as task
use Rattle.cr_main_task.specs.Outside.{Outside}
use Rattle.cr_main_task.specs.Run.{IsReduction, IsToldReduction, RunsTask, by_epochs}
use Rattle.cr_main_task.specs.Story.{KeepsJournal, journal_told}
use Rattle.cr_main_task.specs.Task.{Task}
use Rattle.cr_main_task.proofs.Askings.{task_asks}
use Rattle.cr_main_task.proofs.Calls.{read_fails, read_goes_on, task_faults, task_quiet}
use Rattle.cr_main_task.proofs.Completing.{task_free}
use Rattle.cr_main_task.proofs.Endings.{IsLate, not_late, task_ends}
use Rattle.cr_main_task.proofs.Headlines.{IsDone, few_asked, not_done, task_done}
use Rattle.cr_main_task.proofs.Journals.{read_keeps_journal, task_keeps_journal}
use Rattle.cr_main_task.proofs.Keeping.{task_keeps}
use Rattle.cr_main_task.proofs.Statuses.{put_status}
use Rattle.cr_main_words.specs.Names.{name_of}
use Rattle.cr_main_words.specs.Words.{Word}
use Rattle.cr_main_words.specs.declared.source.Source.{Source}
use Rattle.cr_main_words.specs.declared.source.Source.TheVariants as source
use Rattle.cr_main.specs.Headline.{AsksOnly, Completes, HasEnded, IsHeadline, KeepsFiles, NeedsNoFiles, Promises}
use Rattle.cr_main.specs.Headline.AsksOnly.{run_asks, run_asks_nothing}
use Rattle.cr_main.specs.Headline.HasEnded.{finished, untested}
use Rattle.cr_main.specs.Headline.KeepsFiles.{files_kept, files_unchanged}
use Rattle.cr_main.specs.Run.{Runs}
use Rattle.cr_main.specs.Run.Runs.{no_settings, on_task, unsorted}
use Rattle.cr_main.specs.Task.{saves_of, task_of, text_of}
use Rattle.cr_main.proofs.OneTask.{all_alike, same_saves}

-- where the answers are told, the reduction by epochs is the one-thread first-accepted one
pub told_of : (t : Task) (since after : Judging) (bytes : List ℕ) (end : End) → IsReduction t since after bytes end → IsToldReduction t bytes end
told_of t since after bytes end it = record { reduction = it.reduction; fixed_point = it.fixed_point }

pub passes_levels : (enabled : List Bool) → HasLevels (Offers enabled) (levels_on enabled)
passes_levels enabled = record { none_above = none_on enabled; few = few_variants enabled }

-- what is made of the story to have the bytes
pub opens_on : (s : Source) (files : Option Names) (end : Outcome) (old new : Option Story) → (text_of s files).Opens end old new → GoesOn old new
opens_on (source.Named name) files end old new calls = read_goes_on (name_of (source.Named name)) end old new calls
opens_on (source.Made number items) files end old new calls = subst (GoesOn old) (sym calls.1) (goes_nowhere old)

pub opens_fails : (s : Source) (files : Option Names) (old new : Option Story) → (text_of s files).Opens Failed old new → EndsWithFault old new
opens_fails (source.Named name) files old new calls = read_fails (name_of (source.Named name)) old new calls
opens_fails (source.Made number items) files old new calls = let never = calls.0 in cc

pub opens_keep : (s : Source) (files : Option Names) (end : Outcome) (old new : Option Story) → (text_of s files).Opens end old new → KeepsJournal old new
opens_keep (source.Named name) files end old new calls = read_keeps_journal (name_of (source.Named name)) end old new calls
opens_keep (source.Made number items) files end old new calls = ap journal_told calls.1

-- a made text is read and saved by no call
made_quiet : (s : Source) (files : Option Names) (t : Task) (old new : Outside) (before after : Judging) (status : ℕ) → saves_of s ≡ false → t.saves ≡ false → RunsTask t (text_of s files) old new before after status
    → new.story ≡ old.story
made_quiet (source.Named name) files t old new before after status made saves run = cc
made_quiet (source.Made number items) files t old new before after status made saves run = task_quiet t saves (by_epochs t) (λ a b same. same) _ old new before after status run

module _ (words : List Word) (most : ℕ) (says : Telling) (old new : Outside) (before after : Judging) (status : ℕ) where
  headline_of : Runs words most says old new before after status → IsDone status → IsHeadline words most says old new before after status
  headline_of (no_settings none idle said) done = elim (put_status old new _ 2 status said) [
    | inl is ↦ absurd (not_done status 2 is (λ e. omega (arith, e)) (λ e. omega (arith, e)) done)
    | inr is ↦ absurd (not_done status 11 is (λ e. omega (arith, e)) (λ e. omega (arith, e)) done)
  ]
  headline_of (unsorted same quiet is) done = absurd (not_done status 11 is (λ e. omega (arith, e)) (λ e. omega (arith, e)) done)
  headline_of (on_task settings own gives is_own run) done =
      let t = task_of settings says own in
      let it = task_done t (by_epochs t) (told_of t) (text_of settings.source old.files) old new status done before after run in
      record {
        settings = settings;
        own = own;
        is_task = record { gives = gives; is_own = is_own };
        reduced = it;
        few = few_asked t (text_of settings.source old.files) old new before after status done it;
      }

  has_ended : Runs words most says old new before after status → IsLate status → HasEnded words most says old new status
  has_ended (no_settings none idle said) late = elim (put_status old new _ 2 status said) [
    | inl is ↦ absurd (not_late status 2 is (λ e. omega (arith, e)) (λ e. omega (arith, e)) late)
    | inr is ↦ absurd (not_late status 11 is (λ e. omega (arith, e)) (λ e. omega (arith, e)) late)
  ]
  has_ended (unsorted same quiet is) late = absurd (not_late status 11 is (λ e. omega (arith, e)) (λ e. omega (arith, e)) late)
  has_ended (on_task settings own gives is_own run) late =
      let t = task_of settings says own in
      elim (task_ends t (by_epochs t) (told_of t) (text_of settings.source old.files) old new status late before after run) [
        | task.TaskEnded.untested eight files ↦ untested eight files
        | task.TaskEnded.finished it ↦ finished settings own (record { gives = gives; is_own = is_own }) it
      ]

  keeps_files : Runs words most says old new before after status → KeepsFiles words most says old new after
  keeps_files (no_settings none idle said) = files_unchanged idle.files
  keeps_files (unsorted same quiet is) = files_unchanged (ap (λ o. o.files) same)
  keeps_files (on_task settings own gives is_own run) =
      let t = task_of settings says own in
      files_kept settings own (record { gives = gives; is_own = is_own }) (task_keeps t (by_epochs t) (text_of settings.source old.files) old new before after status run)

  fault_last : Runs words most says old new before after status → status ≡ 9 → EndsWithFault old.story new.story
  fault_last (no_settings none idle said) nine = elim (put_status old new _ 2 status said) [
    | inl is ↦ absurd (omega (arith, is, nine))
    | inr is ↦ absurd (omega (arith, is, nine))
  ]
  fault_last (unsorted same quiet is) nine = absurd (omega (arith, is, nine))
  fault_last (on_task settings own gives is_own run) nine =
      let t = task_of settings says own in
      task_faults t (by_epochs t) (text_of settings.source old.files) (λ a b same. subst (GoesOn a) (sym same) (goes_nowhere a))
      (opens_on settings.source old.files) (opens_fails settings.source old.files) old new status nine before after run

  no_files : Runs words most says old new before after status → NeedsNoFiles words most → new.story ≡ old.story
  no_files (no_settings none idle said) needs = idle.story
  no_files (unsorted same quiet is) needs = ap (λ o. o.story) same
  no_files (on_task settings own gives is_own run) needs =
      let made = sym (same_saves words most needs.0 settings needs.1 own needs.2 (record { gives = gives; is_own = is_own })) ∙ needs.3 in
      made_quiet settings.source old.files (task_of settings says own) old new before after status made made run

  journal_kept : Runs words most says old new before after status → KeepsJournal old.story new.story
  journal_kept (no_settings none idle said) = ap journal_told idle.story
  journal_kept (unsorted same quiet is) = ap (λ o. journal_told o.story) same
  journal_kept (on_task settings own gives is_own run) =
      let t = task_of settings says own in
      task_keeps_journal t (by_epochs t) (text_of settings.source old.files) (λ a b same. ap journal_told same) (opens_keep settings.source old.files) old new before after status run

  asks_only : Runs words most says old new before after status → AsksOnly words most says old before after
  asks_only (no_settings none idle said) = run_asks_nothing idle.judges
  asks_only (unsorted same quiet is) = run_asks_nothing quiet
  asks_only (on_task settings own gives is_own run) =
      run_asks settings own (record { gives = gives; is_own = is_own }) (task_asks (task_of settings says own) (text_of settings.source old.files) old new before after status run)

  completes : Runs words most says old new before after status → Completes words most says old new before after status
  completes (no_settings none idle said) = λ settings own is_task all. absurd (none settings is_task.gives)
  completes (unsorted same quiet is) = λ settings own is_task all. inr is
  completes (on_task given_by name gives is_own run) = λ settings own is_task all.
      let t = task_of given_by says name in
      task_free t (by_epochs t) (told_of t) (λ since now bytes end it. it.cause) (text_of given_by.source old.files) old new before after (levels_on given_by.enabled)
      (all_alike words most settings given_by own name is_task (record { gives = gives; is_own = is_own }) says old new before after all)
      (passes_levels given_by.enabled) (λ file. one_test_answer given_by.test says name file) status run

  pub promises : Runs words most says old new before after status → Promises words most says old new before after status
  promises runs = record {
    runs = runs;
    headline = headline_of runs;
    finished = has_ended runs;
    files_kept = keeps_files runs;
    fault_last = fault_last runs;
    no_files = no_files runs;
    journal_kept = journal_kept runs;
    asks_only = asks_only runs;
    completes = completes runs;
  }

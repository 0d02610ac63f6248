-- What a run promises, in a few words: each follows from what it comes to, step by step.
use Rattle.std.specs.Prelude.{◌≡◌, ◌⊎◌, ◌+◌, ◌*◌, ◌-◌, ℕ, List, drop, false, length}
use Rattle.cr_outside.specs.Question.{Says}
use Rattle.cr_outside.specs.Story.{EndsWithFault}
use Rattle.cr_outside.specs.Test.{asks_test}
use Rattle.pass_list.specs.Offers.{levels_on}
use Rattle.cr_reduce.specs.Bench.{AsksAtMost, Judging}
use Rattle.cr_main_task.specs.Headline.{AsksOnlyOf, HasAll, HasFinished, HasReduced, KeepsTask}
use Rattle.cr_main_task.specs.Outside.{Outside}
use Rattle.cr_main_task.specs.Run.{by_epochs}
use Rattle.cr_main_task.specs.Story.{KeepsJournal}
use Rattle.cr_main_words.specs.Giving.{HasSettings}
use Rattle.cr_main_words.specs.Names.{IsOwnName, name_of}
use Rattle.cr_main_words.specs.Words.{Word}
use Rattle.cr_main_words.specs.declared.settings.Settings.{Settings}
use Rattle.cr_main.specs.Run.{Runs}
use Rattle.cr_main.specs.Task.{saves_of, task_of, text_of}

-- What is asked of a run: the words give these settings, and the file has this own name.
pub record IsTask (words : List Word) (most : ℕ) (settings : Settings) (own : List ℕ) : Type 0 where
  pub gives : HasSettings words most settings
  pub is_own : IsOwnName (name_of settings.source) own

-- What is asked of a run needs no judge: its test is a text that the file must have.
abbrev pub NeedsNoJudge : List Word → ℕ → Type 0
NeedsNoJudge words most = (settings : Settings) × (own : List ℕ) × IsTask words most settings own × (asks_test settings.test ≡ false)

-- What is asked of a run needs no files: its text is made.
abbrev pub NeedsNoFiles : List Word → ℕ → Type 0
NeedsNoFiles words most = (settings : Settings) × (own : List ℕ) × IsTask words most settings own × (saves_of settings.source ≡ false)

-- The headline, at the statuses 0 and 7. The judges are asked about the file, and then at most once for each turn and, for each
-- acceptance, for the positions of its epoch behind it.
pub record IsHeadline (words : List Word) (most : ℕ) (says : Says) (old new : Outside) (before after : Judging) (status : ℕ) : Type 0 where
  pub settings : Settings
  pub own : List ℕ
  pub is_task : IsTask words most settings own
  pub reduced : HasReduced (task_of settings says own) (by_epochs (task_of settings says own)) (text_of settings.source old.files) old new before after status
  pub few : AsksAtMost (reduced.end.turns + length reduced.end.accepted.items * (settings.window - 1) + 1) before after

-- What stands at 8 and 10.
pub data HasEnded (words : List Word) (most : ℕ) (says : Says) (old new : Outside) (status : ℕ) : Type 0 where
  -- 8: the test failed on the file
  untested : status ≡ 8 → new.files ≡ old.files → HasEnded words most says old new status
  -- 8 from the reduction, and 10
  finished : (settings : Settings) (own : List ℕ) → IsTask words most settings own → HasFinished (task_of settings says own) (text_of settings.source old.files) old new status
      → HasEnded words most says old new status

-- What holds of the files of every run at every status.
pub data KeepsFiles (words : List Word) (most : ℕ) (says : Says) (old new : Outside) (after : Judging) : Type 0 where
  files_unchanged : new.files ≡ old.files → KeepsFiles words most says old new after
  files_kept : (settings : Settings) (own : List ℕ) → IsTask words most settings own
      → KeepsTask (task_of settings says own) (by_epochs (task_of settings says own)) (text_of settings.source old.files) old new after → KeepsFiles words most says old new after

-- Completeness: with all that it needs, it ends with 0, or for want of memory.
abbrev pub Completes : List Word → ℕ → Says → Outside → Outside → Judging → Judging → ℕ → Type 0
Completes words most says old new before after status = (settings : Settings) (own : List ℕ) → IsTask words most settings own
    → HasAll (levels_on settings.enabled) (task_of settings says own) (text_of settings.source old.files) old new before after → (status ≡ 0) ⊎ (status ≡ 11)

-- What the test is asked in every run.
pub data AsksOnly (words : List Word) (most : ℕ) (says : Says) (old : Outside) (before after : Judging) : Type 0 where
  run_asks_nothing : after ≡ before → AsksOnly words most says old before after
  run_asks : (settings : Settings) (own : List ℕ) → IsTask words most settings own → AsksOnlyOf (task_of settings says own) (text_of settings.source old.files) before after
      → AsksOnly words most says old before after

-- Workers beyond those that the words ask for do nothing: their judges are as they were.
abbrev pub KeepsToWorkers : {J : Type 0} → List Word → ℕ → List J → List J → Type 0
KeepsToWorkers words most old new = (settings : Settings) → HasSettings words most settings → drop settings.workers new ≡ drop settings.workers old

-- All that a run promises of the outside and of what was asked.
pub record Promises (words : List Word) (most : ℕ) (says : Says) (old new : Outside) (before after : Judging) (status : ℕ) : Type 0 where
  pub runs : Runs words most says old new before after status
  pub headline : (status ≡ 0) ⊎ (status ≡ 7) → IsHeadline words most says old new before after status
  pub finished : (status ≡ 8) ⊎ (status ≡ 10) → HasEnded words most says old new status
  pub files_kept : KeepsFiles words most says old new after
  pub fault_last : status ≡ 9 → EndsWithFault old.story new.story
  pub no_files : NeedsNoFiles words most → new.story ≡ old.story
  pub journal_kept : KeepsJournal old.story new.story
  pub asks_only : AsksOnly words most says old before after
  pub completes : Completes words most says old new before after status

-- What a run of the command line comes to.
use Rattle.std.specs.Prelude.{◌≡◌, ℕ, List}
use Rattle.cr_outside.specs.Question.{Says}
use Rattle.cr_reduce.specs.Bench.{Judging}
use Rattle.cr_main_task.specs.Outside.{Outside, Puts}
use Rattle.cr_main_task.specs.Run.{RunsTask}
use Rattle.cr_main_words.specs.Giving.{HasNone, HasSettings}
use Rattle.cr_main_words.specs.Names.{IsOwnName, name_of}
use Rattle.cr_main_words.specs.Words.{Word}
use Rattle.cr_main_words.specs.declared.settings.Settings.{Settings}
use Rattle.cr_main.specs.Messages.{usage_line}
use Rattle.cr_main.specs.Task.{task_of, text_of}

-- nothing was called on the files, and no judge was asked
pub record DoesNothing (old new : Outside) (before after : Judging) : Type 0 where
  pub story : new.story ≡ old.story
  pub files : new.files ≡ old.files
  pub judges : after ≡ before

pub data Runs (words : List Word) (most : ℕ) (says : Says) (old new : Outside) (before after : Judging) (status : ℕ) : Type 0 where
  -- 2: the words give no settings
  no_settings : HasNone words most → DoesNothing old new before after → Puts old new usage_line 2 2 status → Runs words most says old new before after status
  -- 11: no memory was left to read them
  unsorted : new ≡ old → after ≡ before → status ≡ 11 → Runs words most says old new before after status
  on_task : (settings : Settings) (own : List ℕ) → HasSettings words most settings → IsOwnName (name_of settings.source) own
      → RunsTask (task_of settings says own) (text_of settings.source old.files) old new before after status → Runs words most says old new before after status

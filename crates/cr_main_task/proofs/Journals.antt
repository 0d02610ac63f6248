-- A run makes no change of a journal, but what its reduction makes.
use Rattle.std.proofs.Common.{inl, inr, ℕ, Bool, true, false, List, Option, Some, None, refl, ap, ◌∙◌}
use Rattle.cr_outside.specs.Story.{Story, with_event}
use Rattle.cr_outside.specs.Story.Event.{Read, Wrote}
use Rattle.cr_outside.specs.declared.story.Outcome.{Outcome}
use Rattle.cr_outside.specs.declared.story.Outcome.TheVariants as outcome
use Rattle.cr_reduce.specs.Bench.{Judging}
use Rattle.cr_reduce.specs.declared.end.End.{End}
use Rattle.cr_main_task.specs.Outside.{Fails, Outside, story_saved}
use Rattle.cr_main_task.specs.Outside.Fails.{call_failed, starved}
use Rattle.cr_main_task.specs.Run.{Claiming, Concludes, Finishes, RunsBy}
use Rattle.cr_main_task.specs.Run.Concludes.{summed_up, unfinished, unlogged, unwritten}
use Rattle.cr_main_task.specs.Run.Finishes.{reduced, uncopied, unstarted}
use Rattle.cr_main_task.specs.Run.RunsBy.{reduces, refuses, starves}
use Rattle.cr_main_task.specs.Story.{KeepsJournal, journal_told}
use Rattle.cr_main_task.specs.Task.{IsRead, Task, Text, most_read}

after_read : (told : Option Story) (name : List ℕ) (most : ℕ) (end : Outcome) → KeepsJournal told (with_event (Read name most end) told)
after_read None name most end = refl
after_read (Some s) name most end = refl

after_write : (told : Option Story) (name bytes : List ℕ) (end : Outcome) (is_put : Bool) → KeepsJournal told (with_event (Wrote name bytes end is_put) told)
after_write None name bytes end is_put = refl
after_write (Some s) name bytes end is_put = refl

pub read_keeps_journal : (name : List ℕ) (end : Outcome) (old new : Option Story) → IsRead name end old new → KeepsJournal old new
read_keeps_journal name outcome.Done old new tells = ap journal_told tells ∙ after_read old name most_read outcome.Done
read_keeps_journal name outcome.Absent old new tells = ap journal_told tells ∙ after_read old name most_read outcome.Absent
read_keeps_journal name outcome.Failed old new tells = ap journal_told tells ∙ after_read old name most_read outcome.Failed
read_keeps_journal name outcome.NoMemory old new (inl same) = ap journal_told same
read_keeps_journal name outcome.NoMemory old new (inr tells) = ap journal_told tells ∙ after_read old name most_read outcome.NoMemory

saved_keeps : (saves : Bool) (name bytes : List ℕ) (told : Option Story) → KeepsJournal told (story_saved saves name bytes told)
saved_keeps true name bytes told = after_write told name bytes outcome.Done true
saved_keeps false name bytes told = refl

fails_keeps : {bytes : List ℕ} (saves : Bool) (old new : Outside) (name : List ℕ) (status : ℕ) → Fails saves old new name bytes status → KeepsJournal old.story new.story
fails_keeps {bytes = bytes} saves old new name status (call_failed on rose tells said) = ap journal_told tells.1 ∙ after_write old.story name bytes outcome.Failed tells.0
fails_keeps saves old new name status (starved (inl same) silent is) = ap journal_told same
fails_keeps saves old new name status (starved (inr (on, inl same)) silent is) = ap journal_told same
fails_keeps {bytes = bytes} saves old new name status (starved (inr (on, inr tells)) silent is) = ap journal_told tells.1 ∙ after_write old.story name bytes outcome.NoMemory tells.0

module _ (t : Task) (By : Claiming) (text : Text) (keeps : (old new : Option Story) → By.Tells old new → KeepsJournal old new)
    (opens : (end : Outcome) (old new : Option Story) → text.Opens end old new → KeepsJournal old new) where
  conclude_keeps : (saves : Bool) (name : List ℕ) (copied new : Outside) (end : End) (old_size size status : ℕ) → Concludes saves name copied new end old_size size status → KeepsJournal copied.story new.story
  conclude_keeps saves name copied new end old_size size status (unfinished same is) = ap (λ o. journal_told o.story) same
  conclude_keeps saves name copied new end old_size size status (unwritten ended wrong) = fails_keeps saves copied new name status wrong.fails
  conclude_keeps saves name copied new end old_size size status (unlogged written ended first wrong) =
      fails_keeps saves written new _ status wrong.fails ∙ ap journal_told first.story ∙ saved_keeps saves name end.file.items copied.story
  conclude_keeps saves name copied new end old_size size status (summed_up ended files calls said) =
      ap journal_told calls ∙ saved_keeps saves _ _ _ ∙ saved_keeps saves name end.file.items copied.story

  finish_keeps : (bytes : List ℕ) (read new : Outside) (since after : Judging) (status : ℕ) → Finishes t bytes By read new since after status → KeepsJournal read.story new.story
  finish_keeps bytes read new since after status (unstarted same none is) = ap (λ o. journal_told o.story) same
  finish_keeps bytes read new since after status (uncopied wrong none) = fails_keeps t.saves read new _ status wrong.fails
  finish_keeps bytes read new since after status (reduced copied end old_size size copy claims old_sized sized ends) =
      conclude_keeps t.saves t.name copied new end old_size size status ends ∙ keeps copy.story.0 copied.story copy.story.2 ∙ ap journal_told copy.story.1 ∙ saved_keeps t.saves _ bytes read.story

  pub task_keeps_journal : (old new : Outside) (before after : Judging) (status : ℕ) → RunsBy t By text old new before after status → KeepsJournal old.story new.story
  task_keeps_journal old new before after status (refuses r causes asked files calls said) = opens _ old.story new.story calls
  task_keeps_journal old new before after status (starves asked files (inl calls) mute is) = opens _ old.story new.story calls
  task_keeps_journal old new before after status (starves asked files (inr calls) mute is) = opens _ old.story new.story calls
  task_keeps_journal old new before after status (reduces bytes read since same calls answered finishes) = finish_keeps bytes read new since after status finishes ∙ opens _ old.story read.story calls

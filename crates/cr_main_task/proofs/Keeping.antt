-- What holds of the files at every status, from what a run comes to.
use Rattle.std.proofs.Common.{◌≡◌, inl, inr, ℕ, Bool, true, false, List, refl, ap, ◌∙◌}
use Rattle.cr_log.specs.Texts.{log_text_of}
use Rattle.cr_outside.specs.Files.{put_told}
use Rattle.cr_reduce.specs.Bench.{Judging}
use Rattle.cr_reduce.specs.declared.end.End.{End}
use Rattle.cr_main_task.specs.Headline.{KeepsTask, Wrote}
use Rattle.cr_main_task.specs.Headline.KeepsTask.{task_copied, task_unchanged, task_written}
use Rattle.cr_main_task.specs.Headline.Wrote.{the_copy, the_log, the_result}
use Rattle.cr_main_task.specs.Messages.{copy_name, log_name}
use Rattle.cr_main_task.specs.Outside.{Outside, saved}
use Rattle.cr_main_task.specs.Run.{Concludes, Claiming, Finishes, RunsBy}
use Rattle.cr_main_task.specs.Run.Concludes.{unfinished, unwritten, unlogged, summed_up}
use Rattle.cr_main_task.specs.Run.Finishes.{unstarted, uncopied, reduced}
use Rattle.cr_main_task.specs.Run.RunsBy.{reduces, refuses, starves}
use Rattle.cr_main_task.specs.Task.{Task, Text}

-- The writes of a run that saves, once it had reduced.
abbrev SoFar : List ℕ → List ℕ → End → ℕ → Outside → Outside → Type 0
SoFar name bytes end size old new = Wrote name bytes end.file.items (log_text_of end size) old.files new.files

module _ (name bytes : List ℕ) (end : End) (size : ℕ) (old copied new : Outside) (copy : copied.files ≡ put_told (copy_name name) bytes old.files) where
  copy_stands : new.files ≡ copied.files → SoFar name bytes end size old new
  copy_stands same = the_copy (same ∙ copy)

  result_stands : new.files ≡ put_told name end.file.items copied.files → SoFar name bytes end size old new
  result_stands result = the_result (result ∙ ap (λ m. put_told name end.file.items m) copy)

  log_stands : new.files ≡ put_told (log_name name) (log_text_of end size) (put_told name end.file.items copied.files) → SoFar name bytes end size old new
  log_stands log = the_log (log ∙ ap (λ m. put_told (log_name name) (log_text_of end size) (put_told name end.file.items m)) copy)

  wrote : (old_size status : ℕ) → Concludes true name copied new end old_size size status → SoFar name bytes end size old new
  wrote old_size status (unfinished same is) = copy_stands (ap (λ o. o.files) same)
  wrote old_size status (unwritten ended fails) = elim fails.files [ inl same ↦ copy_stands same | inr result ↦ result_stands result.1 ]
  wrote old_size status (unlogged written ended first fails) = elim fails.files [
    | inl same ↦ result_stands (same ∙ first.files)
    | inr log ↦ log_stands (log.1 ∙ ap (λ m. put_told (log_name name) (log_text_of end size) m) first.files)
  ]
  wrote old_size status (summed_up ended files calls said) = log_stands files

-- A run that saves nothing leaves the files.
wrote_nothing : (name : List ℕ) (copied new : Outside) (end : End) (old_size size status : ℕ) → Concludes false name copied new end old_size size status → new.files ≡ copied.files
wrote_nothing name copied new end old_size size status (unfinished same is) = ap (λ o. o.files) same
wrote_nothing name copied new end old_size size status (unwritten ended fails) = elim fails.files [ inl same ↦ same | inr put ↦ let never = put.0 in cc ]
wrote_nothing name copied new end old_size size status (unlogged written ended first fails) = elim fails.files [ inl same ↦ same ∙ first.files | inr put ↦ let never = put.0 in cc ]
wrote_nothing name copied new end old_size size status (summed_up ended files calls said) = files

module _ (t : Task) (By : Claiming) (text : Text) (old new : Outside) where
  reduced_keeps : (saves : Bool) → t.saves ≡ saves → (read copied : Outside) (since after : Judging) (bytes : List ℕ) (end : End) (old_size size status : ℕ) → read.files ≡ old.files → text.Has bytes
      → By.Claims since after bytes end → copied.files ≡ saved saves (copy_name t.name) bytes read.files → Concludes saves t.name copied new end old_size size status → KeepsTask t By text old new after
  reduced_keeps true is read copied since after bytes end old_size size status same has reduction copy ends =
      task_written bytes (log_text_of end size) since end is has reduction
      (wrote t.name bytes end size old copied new (copy ∙ ap (λ m. put_told (copy_name t.name) bytes m) same) old_size status ends)
  reduced_keeps false is read copied since after bytes end old_size size status same has reduction copy ends =
      task_unchanged (wrote_nothing t.name copied new end old_size size status ends ∙ copy ∙ same)

  finish_keeps : (read : Outside) (since after : Judging) (bytes : List ℕ) (status : ℕ) → read.files ≡ old.files → text.Has bytes
      → Finishes t bytes By read new since after status → KeepsTask t By text old new after
  finish_keeps read since after bytes status same has (unstarted unmoved quiet is) = task_unchanged (ap (λ o. o.files) unmoved ∙ same)
  finish_keeps read since after bytes status same has (uncopied fails quiet) = elim fails.files [
    | inl kept ↦ task_unchanged (kept ∙ same)
    | inr copy ↦ task_copied bytes copy.0 has (copy.1 ∙ ap (λ m. put_told (copy_name t.name) bytes m) same)
  ]
  finish_keeps read since after bytes status same has (reduced copied end old_size size copy reduction old_sized sized ends) =
      reduced_keeps t.saves refl read copied since after bytes end old_size size status same has reduction copy.files ends

  pub task_keeps : (before after : Judging) (status : ℕ) → RunsBy t By text old new before after status → KeepsTask t By text old new after
  task_keeps before after status (refuses r causes asked files calls said) = task_unchanged files
  task_keeps before after status (starves asked files calls silent is) = task_unchanged files
  task_keeps before after status (reduces bytes read since same calls answered finishes) = finish_keeps read since after bytes status same.files answered.asked.has finishes

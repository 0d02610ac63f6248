-- What stands at 8 and 10, from what a run comes to.
use Rattle.std.proofs.Common.{◌≡◌, ◌⊎◌, inl, inr, ℕ, Bool, List, sym, ap, subst, ◌∙◌, arith}
use Rattle.cr_log.specs.Texts.{log_text_of, summary_text_of}
use Rattle.cr_reduce.specs.Bench.{Judging}
use Rattle.cr_reduce.specs.declared.end.End.{End}
use Rattle.cr_main_task.specs.Headline.{HasFinished, TaskEnded}
use Rattle.cr_main_task.specs.Headline.TaskEnded.{finished, untested}
use Rattle.cr_main_task.specs.Messages.{copy_name, log_name}
use Rattle.cr_main_task.specs.Outside.{Fails, IsUnchanged, Outside, Puts, Says, saved}
use Rattle.cr_main_task.specs.Run.{Claiming, Finishes, IsToldReduction, RunsBy, end_status}
use Rattle.cr_main_task.specs.Run.Concludes.{unfinished, unwritten, unlogged, summed_up}
use Rattle.cr_main_task.specs.Run.Finishes.{unstarted, uncopied, reduced}
use Rattle.cr_main_task.specs.Run.RunsBy.{reduces, refuses, starves}
use Rattle.cr_main_task.specs.Task.{Task, Text}
use Rattle.cr_main_task.proofs.Statuses.{fails_status, refused_is}

-- 8 and 10
abbrev pub IsLate : ℕ → Type 0
IsLate status = (status ≡ 8) ⊎ (status ≡ 10)

pub not_late : (status n : ℕ) → status ≡ n → (n ≡ 8 → ⊥) → (n ≡ 10 → ⊥) → IsLate status → ⊥
not_late status n is not_8 not_10 (inl late) = not_8 (sym is ∙ late)
not_late status n is not_8 not_10 (inr late) = not_10 (sym is ∙ late)

starved_not_late : (status : ℕ) → status ≡ 11 → IsLate status → ⊥
starved_not_late status is late = not_late status 11 is (λ e. omega (arith, e)) (λ e. omega (arith, e)) late

fails_not_late : {bytes : List ℕ} (saves : Bool) (old new : Outside) (name : List ℕ) (status : ℕ) → Fails saves old new name bytes status → IsLate status → ⊥
fails_not_late saves old new name status fails late = elim (fails_status saves old new name status fails) [
  | inl is ↦ not_late status 9 is (λ e. omega (arith, e)) (λ e. omega (arith, e)) late
  | inr is ↦ starved_not_late status is late
]

-- what was put since is put since the beginning
puts_earlier : (old now new : Outside) (line : List ℕ) (whole status : ℕ) → now.output ≡ old.output → now.output_faults ≡ old.output_faults → Puts now new line whole 10 status → Puts old new line whole 10 status
puts_earlier old now new line whole status same count said =
    subst (λ o. Says o new.output old.output_faults new.output_faults line whole 10 status) same (subst (λ f. Says now.output new.output f new.output_faults line whole 10 status) count said)

module _ (t : Task) (By : Claiming) (told_of : (since after : Judging) (bytes : List ℕ) (end : End) → By.Claims since after bytes end → IsToldReduction t bytes end)
    (text : Text) (old new : Outside) (status : ℕ) (late : IsLate status) where
  finish_ends : (read : Outside) (since after : Judging) (bytes : List ℕ) → IsUnchanged old read → text.Has bytes → t.search.Lawful bytes
      → Finishes t bytes By read new since after status → HasFinished t text old new status
  finish_ends read since after bytes same has lawful (unstarted unmoved quiet is) = absurd (starved_not_late status is late)
  finish_ends read since after bytes same has lawful (uncopied fails quiet) = absurd (fails_not_late t.saves read new (copy_name t.name) status fails.fails late)
  finish_ends read since after bytes same has lawful (reduced copied end old_size size copy reduction old_sized sized (unfinished unmoved is)) = absurd (starved_not_late status is late)
  finish_ends read since after bytes same has lawful (reduced copied end old_size size copy reduction old_sized sized (unwritten ended fails)) =
      absurd (fails_not_late t.saves copied new t.name status fails.fails late)
  finish_ends read since after bytes same has lawful (reduced copied end old_size size copy reduction old_sized sized (unlogged written ended first fails)) =
      absurd (fails_not_late t.saves written new (log_name t.name) status fails.fails late)
  finish_ends read since after bytes same has lawful (reduced copied end old_size size copy reduction old_sized sized (summed_up ended files calls said)) = record {
    bytes = bytes;
    end = end;
    old_size = old_size;
    size = size;
    has = has;
    lawful = lawful;
    old_sized = old_sized;
    sized = sized;
    remembered = ended;
    reduction = (told_of since after bytes end reduction).reduction;
    fixed_point = (told_of since after bytes end reduction).fixed_point;
    files = files ∙ ap (λ m. saved t.saves (log_name t.name) (log_text_of end size) (saved t.saves t.name end.file.items m)) (copy.files ∙ ap (λ m. saved t.saves (copy_name t.name) bytes m) same.files);
    output = puts_earlier old copied new (summary_text_of t.name old_size size end) (end_status end.why) status (copy.output ∙ same.output) (copy.output_faults ∙ same.output_faults) said;
  }

  refused_ends : ((status ≡ 10) → ⊥) → new.files ≡ old.files → TaskEnded t text old new status
  refused_ends not_10 files = elim late [ inl eight ↦ untested eight files | inr ten ↦ absurd (not_10 ten) ]

  pub task_ends : (before after : Judging) → RunsBy t By text old new before after status → TaskEnded t text old new status
  task_ends before after (refuses r causes asked files calls said) = refused_ends (λ ten. refused_is old new t.name r status said (inr (inr ten))) files
  task_ends before after (starves asked files calls silent is) = absurd (starved_not_late status is late)
  task_ends before after (reduces bytes read since same calls answered finishes) =
      finished (finish_ends read since after bytes same answered.asked.has answered.asked.lawful finishes)

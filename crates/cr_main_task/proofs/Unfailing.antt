-- A run of a task that asks no judge doesn't end with 8.
use Rattle.std.proofs.Common.{◌≡◌, inl, inr, ℕ, Bool, true, false, List, sym, ◌∙◌, arith}
use Rattle.cr_reduce.specs.Bench.{Judging}
use Rattle.cr_reduce.specs.Ends.{FaultsWithCause}
use Rattle.cr_reduce.specs.declared.end.End.{End}
use Rattle.cr_reduce.specs.declared.end.Why.{Why}
use Rattle.cr_reduce.specs.declared.end.Why.TheVariants as why
use Rattle.cr_main_task.specs.Messages.{copy_name, log_name, refusal_status}
use Rattle.cr_main_task.specs.Outside.{Fails, Outside, Puts}
use Rattle.cr_main_task.specs.Outside.Says.{said_cut, said_starved, said_whole}
use Rattle.cr_main_task.specs.Run.{Causes, Claiming, Finishes, RunsBy, end_status}
use Rattle.cr_main_task.specs.Run.Concludes.{summed_up, unfinished, unlogged, unwritten}
use Rattle.cr_main_task.specs.Run.Finishes.{reduced, uncopied, unstarted}
use Rattle.cr_main_task.specs.Run.RunsBy.{reduces, refuses, starves}
use Rattle.cr_main_task.specs.Task.{Task, Text}
use Rattle.cr_main_task.specs.declared.messages.Refusal.{Refusal}
use Rattle.cr_main_task.specs.declared.messages.Refusal.TheVariants as refusal
use Rattle.cr_main_task.proofs.Statuses.{fails_status}
use Rattle.cr_main_task.proofs.Unopened.{reason_is_not, refused_status}

module _ (t : Task) (By : Claiming) (cause_of : (since after : Judging) (bytes : List ℕ) (end : End) → By.Claims since after bytes end → FaultsWithCause t.search since after end.why) (quiet : t.search.asks ≡ false) (text : Text) (old new : Outside) (before after : Judging) (status : ℕ) (eight : status ≡ 8) where
  refusal_is_not : (r : Refusal) → Causes t text old new before after r → refusal_status r ≡ 8 → ⊥
  refusal_is_not refusal.NoFile cause is = omega (arith, is)
  refusal_is_not (refusal.Against reason) cause is = reason_is_not reason 8 is (λ e. omega (arith, e)) (λ e. omega (arith, e))
  refusal_is_not refusal.SaysNo cause is = omega (arith, is)
  refusal_is_not refusal.TestFailed cause is = let asks : true ≡ false = sym cause.2 ∙ quiet in cc
  refusal_is_not refusal.FileFault cause is = omega (arith, is)

  end_is_not : (since : Judging) (reason : Why) → FaultsWithCause t.search since after reason → end_status reason ≡ 8 → ⊥
  end_is_not since why.Fixed cause is = omega (arith, is)
  end_is_not since why.Limit cause is = omega (arith, is)
  end_is_not since (why.Fault turn worker) cause is = let asks : true ≡ false = sym cause.0 ∙ quiet in cc
  end_is_not since why.NoMemory cause is = omega (arith, is)

  save_is_not : {bytes : List ℕ} (saves : Bool) (first last : Outside) (name : List ℕ) → Fails saves first last name bytes status → ⊥
  save_is_not saves first last name fails = elim (fails_status saves first last name status fails) [
    | inl nine ↦ omega (arith, nine, eight)
    | inr starved ↦ omega (arith, starved, eight)
  ]

  summary_is_not : (copied : Outside) (line : List ℕ) (n : ℕ) → Puts copied new line n 10 status → (n ≡ 8 → ⊥) → ⊥
  summary_is_not copied line n (said_whole put is) other = other (sym is ∙ eight)
  summary_is_not copied line n (said_cut m put rose is) other = omega (arith, is, eight)
  summary_is_not copied line n (said_starved m put is) other = omega (arith, is, eight)

  finish_never_fails : (read : Outside) (since : Judging) (bytes : List ℕ) → Finishes t bytes By read new since after status → ⊥
  finish_never_fails read since bytes (unstarted same none is) = omega (arith, is, eight)
  finish_never_fails read since bytes (uncopied wrong none) = save_is_not t.saves read new (copy_name t.name) wrong.fails
  finish_never_fails read since bytes (reduced copied end old_size size copy claims old_sized sized (unfinished same is)) = omega (arith, is, eight)
  finish_never_fails read since bytes (reduced copied end old_size size copy claims old_sized sized (unwritten ended wrong)) = save_is_not t.saves copied new t.name wrong.fails
  finish_never_fails read since bytes (reduced copied end old_size size copy claims old_sized sized (unlogged written ended first wrong)) =
      save_is_not t.saves written new (log_name t.name) wrong.fails
  finish_never_fails read since bytes (reduced copied end old_size size copy claims old_sized sized (summed_up ended files calls said)) =
      summary_is_not copied _ (end_status end.why) said (λ is. end_is_not since end.why (cause_of since after bytes end claims) is)

  pub task_never_fails : RunsBy t By text old new before after status → ⊥
  task_never_fails (refuses r causes asked files calls said) = refused_status old new t.name r status 8 said eight (λ is. refusal_is_not r causes is) (λ e. omega (arith, e))
  task_never_fails (starves asked files calls mute is) = omega (arith, is, eight)
  task_never_fails (reduces bytes read since same calls answered finishes) = finish_never_fails read since bytes finishes

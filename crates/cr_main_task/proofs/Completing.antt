-- Completeness, from what a run comes to.
use Rattle.std.proofs.Common.{◌≡◌, ◌⊎◌, inl, inr, ◌+◌, ◌*◌, ◌≤◌, ℕ, Bool, true, false, List, length, Option, Some, None, refl, sym, subst, arith}
use Rattle.std.proofs.Math.Nat.{mul-le-mul}
use Rattle.cr_cursor.specs.Variants.{pass_count}
use Rattle.cr_outside.proofs.Counts.{rose_earlier}
use Rattle.cr_outside.specs.Question.{AnswersAsTold}
use Rattle.cr_outside.specs.declared.judge.Answer.TheVariants.{No}
use Rattle.cr_reduce.specs.Bench.{GoesOn, Judging, RoseAt}
use Rattle.cr_reduce.specs.declared.end.End.{End}
use Rattle.cr_reduce.specs.declared.end.Why.{Why}
use Rattle.cr_reduce.specs.declared.end.Why.TheVariants.{Fixed, Limit, Fault, NoMemory}
use Rattle.cr_reduce.specs.Bound.{HasLevels, enough_turns, levels_below}
use Rattle.cr_reduce.specs.Ends.{EndsToldBy, FaultsWithCause, outcome_of}
use Rattle.cr_reduce.specs.Reduction.{Within, none_fails}
use Rattle.cr_reduce.specs.Search.{AcceptsAsTold, ReducesFileAsTold, RejectsAsTold, Search}
use Rattle.cr_reduce.specs.Sizes.{HasSize}
use Rattle.cr_reduce.proofs.Bounds.{ends_in_time}
use Rattle.cr_reduce.proofs.Runs.{rose_at-earlier}
use Rattle.cr_reduce.proofs.Sizes.{size_by_length}
use Rattle.cr_main_task.specs.Headline.{HasAll, enough_for}
use Rattle.cr_main_task.specs.Messages.{copy_name, log_name}
use Rattle.cr_main_task.specs.Outside.{Fails, IsUnchanged, Outside, Says}
use Rattle.cr_main_task.specs.Outside.Fails.{call_failed, starved}
use Rattle.cr_main_task.specs.Outside.Says.{said_whole, said_cut, said_starved}
use Rattle.cr_main_task.specs.Run.{Causes, Claiming, Concludes, Finishes, IsToldReduction, RunsBy, end_status}
use Rattle.cr_main_task.specs.Run.Concludes.{unfinished, unwritten, unlogged, summed_up}
use Rattle.cr_main_task.specs.Run.Finishes.{unstarted, uncopied, reduced}
use Rattle.cr_main_task.specs.Run.RunsBy.{reduces, refuses, starves}
use Rattle.cr_main_task.specs.Task.{Task, Text}
use Rattle.cr_main_task.specs.declared.messages.Refusal.{Refusal}
use Rattle.cr_main_task.specs.declared.messages.Refusal.TheVariants as refusal

-- 0, or want of memory
abbrev pub IsFree : ℕ → Type 0
IsFree status = (status ≡ 0) ⊎ (status ≡ 11)

fewer_within : (limit : Option ℕ) (m n : ℕ) → m ≤ n → Within limit n → Within limit m
fewer_within None m n less within = tt
fewer_within (Some most) m n less within = omega arith

-- what is enough for the size is enough for the bytes
sum_less : (a b c d : ℕ) → a ≤ b → c ≤ d → a + c ≤ b + d
sum_less a b c d first second = omega (arith, first, second)

enough_more : (all n size : ℕ) → size ≤ 12 * n → all * size * (size + 1) + size ≤ all * (12 * n) * (12 * n + 1) + 12 * n
enough_more all n size small =
    let same : all ≤ all = omega arith in
    let rounds : size + 1 ≤ 12 * n + 1 = omega (arith, small) in
    sum_less (all * size * (size + 1)) (all * (12 * n) * (12 * n + 1)) size (12 * n) (mul-le-mul (mul-le-mul same small) rounds) small

pub bytes_enough : (levels : ℕ → ℕ) (n size : ℕ) → size ≤ 12 * n → enough_turns levels size ≤ enough_for levels n
bytes_enough levels n size small = enough_more (levels_below levels pass_count) n size small

-- a told reduction ends before a limit that is large enough
told_in_time : (s : Search) (limit : Option ℕ) (file : List ℕ) (end : End) (why : Why) → EndsToldBy (ReducesFileAsTold s file) file limit end why
    → (levels : ℕ → ℕ) (size : ℕ) → HasLevels s.Offers levels → HasSize file size → Within limit (enough_turns levels size) → why ≡ Limit → ⊥
told_in_time s limit file end Fixed run levels size has sized enough is = cc
told_in_time s limit file end Limit run levels size has sized enough is =
    ends_in_time s.Offers (AcceptsAsTold s) (RejectsAsTold s) none_fails levels size limit has (λ f v it. it.smaller) file run.0 (outcome_of end Limit) run.1 sized enough run.2 refl
told_in_time s limit file end (Fault turn worker) run levels size has sized enough is = cc
told_in_time s limit file end NoMemory run levels size has sized enough is = cc

-- A run of a task with all it needs, whose passes have these levels, and whose test doesn't tell both answers. What is claimed of its
-- reduction is the told one, and each fault has its cause.
module _ (t : Task) (By : Claiming) (told_of : (since now : Judging) (bytes : List ℕ) (end : End) → By.Claims since now bytes end → IsToldReduction t bytes end)
    (cause_of : (since now : Judging) (bytes : List ℕ) (end : End) → By.Claims since now bytes end → FaultsWithCause t.search since now end.why) (text : Text) (old new : Outside) (before after : Judging) (levels : ℕ → ℕ) (all : HasAll levels t text old new before after) (has : HasLevels t.search.Offers levels)
    (apart : (file : List ℕ) → t.search.Tells file true → t.search.Tells file false → ⊥) where
  file_never_fails : {bytes : List ℕ} (saves : Bool) (read : Outside) (name : List ℕ) (status : ℕ) → old.file_faults ≤ read.file_faults → Fails saves read new name bytes status → IsFree status
  file_never_fails saves read name status later (call_failed on rose calls said) = absurd (all.no_file_fault (rose_earlier old.file_faults read.file_faults new.file_faults later rose))
  file_never_fails saves read name status later (starved calls silent is) = inr is

  judge_never_fails : (since : Judging) (worker : ℕ) → GoesOn before since → RoseAt worker since.faults after.faults → ⊥
  judge_never_fails since worker on rose = all.no_judge_fault worker (rose_at-earlier worker before.faults since.faults after.faults on.faults rose)

  never_no : (bytes : List ℕ) → text.Has bytes → AnswersAsTold t.search.asks (t.search.Tells bytes) No → ⊥
  never_no bytes there no_is_told = apart bytes (subst (λ b. t.search.Tells b true) (sym (all.there bytes there)) all.yes) (no_is_told (all.all_told bytes))

  never_refuses : (r : Refusal) → Causes t text old new before after r → ⊥
  never_refuses refusal.NoFile lacks = all.here lacks
  never_refuses (refusal.Against reason) out = out.unlawful (subst t.search.Lawful (sym (all.there out.bytes out.has)) all.lawful)
  never_refuses refusal.SaysNo it = never_no it.0 it.1.asked.has it.1.answered.told
  never_refuses refusal.TestFailed failed = all.no_judge_fault 0 failed.3
  never_refuses refusal.FileFault rose = all.no_file_fault rose

  never_limit : (since : Judging) (bytes : List ℕ) (end : End) (size : ℕ) → bytes ≡ all.bytes → HasSize bytes size → By.Claims since after bytes end → end.why ≡ Limit → ⊥
  never_limit since bytes end size is sized claims =
      told_in_time t.search t.limit bytes end end.why ((told_of since after bytes end claims).reduction all.all_told) levels size has sized
      (fewer_within t.limit (enough_turns levels size) (enough_for levels (length bytes)) (bytes_enough levels (length bytes) size (size_by_length bytes size sized))
      (subst (λ b. Within t.limit (enough_for levels (length b))) (sym is) all.enough))

  end_free : (since : Judging) (reason : Why) → GoesOn before since → (reason ≡ Limit → ⊥) → FaultsWithCause t.search since after reason → IsFree (end_status reason)
  end_free since Fixed on limit cause = inl refl
  end_free since Limit on limit cause = absurd (limit refl)
  end_free since (Fault turn worker) on limit cause = absurd (judge_never_fails since worker on cause.1)
  end_free since NoMemory on limit cause = inr refl

  said_free : (faults : ℕ) (told : Option (List ℕ)) (line : List ℕ) (whole status : ℕ) → old.output_faults ≤ faults → IsFree whole
      → Says told new.output faults new.output_faults line whole 10 status → IsFree status
  said_free faults told line whole status later free (said_whole put is) = subst IsFree (sym is) free
  said_free faults told line whole status later free (said_cut n put rose is) = absurd (all.no_output_fault (rose_earlier old.output_faults faults new.output_faults later rose))
  said_free faults told line whole status later free (said_starved n put is) = inr is

  conclude_free : (saves : Bool) (name : List ℕ) (copied : Outside) (end : End) (old_size size status : ℕ) → old.file_faults ≤ copied.file_faults → old.output_faults ≤ copied.output_faults → IsFree (end_status end.why)
      → Concludes saves name copied new end old_size size status → IsFree status
  conclude_free saves name copied end old_size size status files outputs free (unfinished unmoved is) = inr is
  conclude_free saves name copied end old_size size status files outputs free (unwritten ended fails) = file_never_fails saves copied name status files fails.fails
  conclude_free saves name copied end old_size size status files outputs free (unlogged written ended first fails) =
      file_never_fails saves written (log_name name) status (omega (arith, files, first.file_faults)) fails.fails
  conclude_free saves name copied end old_size size status files outputs free (summed_up ended put calls said) = said_free copied.output_faults copied.output _ (end_status end.why) status outputs free said

  finish_free : (read : Outside) (since : Judging) (bytes : List ℕ) (status : ℕ) → IsUnchanged old read → GoesOn before since → bytes ≡ all.bytes
      → Finishes t bytes By read new since after status → IsFree status
  finish_free read since bytes status unmoved on is (unstarted none quiet starved_so) = inr starved_so
  finish_free read since bytes status unmoved on is (uncopied fails quiet) = file_never_fails t.saves read (copy_name t.name) status unmoved.file_faults fails.fails
  finish_free read since bytes status unmoved on is (reduced copied end old_size size copy reduction old_sized sized ends) =
      conclude_free t.saves t.name copied end old_size size status (omega (arith, unmoved.file_faults, copy.file_faults)) (omega (arith, unmoved.output_faults, copy.output_faults))
      (end_free since end.why on (never_limit since bytes end old_size is old_sized reduction) (cause_of since after bytes end reduction)) ends

  pub task_free : (status : ℕ) → RunsBy t By text old new before after status → IsFree status
  task_free status (refuses r causes asked files calls said) = absurd (never_refuses r causes)
  task_free status (starves asked files calls silent is) = inr is
  task_free status (reduces bytes read since unmoved calls answered finishes) = finish_free read since bytes status unmoved answered.asked.goes_on (all.there bytes answered.asked.has) finishes

-- The headline, from what a run comes to.
use Rattle.std.proofs.Common.{◌≡◌, ◌⊎◌, inl, inr, ℕ, Bool, List, Option, refl, sym, ◌+◌, ◌*◌, ◌-◌, length, ap, subst, ◌∙◌, arith}
use Rattle.cr_log.specs.Texts.{log_text_of, summary_text_of}
use Rattle.cr_outside.specs.Sink.{appended}
use Rattle.cr_outside.specs.declared.judge.Answer.TheVariants.{Yes}
use Rattle.cr_reduce.specs.Bench.{AsksAtMost, Judging}
use Rattle.cr_reduce.specs.declared.end.End.{End}
use Rattle.cr_reduce.specs.declared.end.Why.{Why}
use Rattle.cr_reduce.specs.declared.end.Why.TheVariants.{Fixed, Limit, Fault, NoMemory}
use Rattle.cr_reduce.specs.Ends.{EndsToldBy, calls_beside, outcome_of}
use Rattle.cr_reduce.specs.Reduction.{Outcome}
use Rattle.cr_reduce.specs.Search.{ReducesFileAsTold}
use Rattle.cr_main_task.specs.Headline.{HasReduced}
use Rattle.cr_main_task.specs.Messages.{copy_name, log_name}
use Rattle.cr_main_task.specs.Outside.{IsUnchanged, Outside, Puts, saved}
use Rattle.cr_main_task.specs.Outside.Says.{said_whole, said_cut, said_starved}
use Rattle.cr_main_task.specs.Run.{Concludes, Finishes, Claiming, IsAnswered, IsToldReduction, RunsBy, by_epochs, end_status}
use Rattle.cr_main_task.specs.Run.Concludes.{unfinished, unwritten, unlogged, summed_up}
use Rattle.cr_main_task.specs.Run.Finishes.{unstarted, uncopied, reduced}
use Rattle.cr_main_task.specs.Run.RunsBy.{reduces, refuses, starves}
use Rattle.cr_main_task.specs.Task.{Task, Text}
use Rattle.cr_main_task.proofs.Statuses.{IsOfEnds, fails_is, refused_is, starved_is}

-- 0 and 7
abbrev pub IsDone : ℕ → Type 0
IsDone status = (status ≡ 0) ⊎ (status ≡ 7)

pub is_of_ends : (status : ℕ) → IsDone status → IsOfEnds status
is_of_ends status (inl zero) = inl zero
is_of_ends status (inr seven) = inr (inl seven)

pub not_done : (status n : ℕ) → status ≡ n → (n ≡ 0 → ⊥) → (n ≡ 7 → ⊥) → IsDone status → ⊥
not_done status n is not_0 not_7 (inl done) = not_0 (sym is ∙ done)
not_done status n is not_0 not_7 (inr done) = not_7 (sym is ∙ done)

-- how the reduction ended, by the status
told_whole : (reduction : Option ℕ → Outcome → Type 0) (file : List ℕ) (limit : Option ℕ) (end : End) (why : Why) → IsDone (end_status why) → EndsToldBy reduction file limit end why → reduction limit (outcome_of end why)
told_whole reduction file limit end Fixed done it = it
told_whole reduction file limit end Limit done it = it
told_whole reduction file limit end (Fault turn worker) done it = absurd (not_done 8 8 refl (λ e. omega (arith, e)) (λ e. omega (arith, e)) done)
told_whole reduction file limit end NoMemory done it = absurd (not_done 11 11 refl (λ e. omega (arith, e)) (λ e. omega (arith, e)) done)

is_fixed : (why : Why) → end_status why ≡ 0 → why ≡ Fixed
is_fixed Fixed e = refl
is_fixed Limit e = absurd (omega (arith, e))
is_fixed (Fault turn worker) e = absurd (omega (arith, e))
is_fixed NoMemory e = absurd (omega (arith, e))

-- no calls beside
none_beside : (window : ℕ) (why : Why) → IsDone (end_status why) → calls_beside window why ≡ 0
none_beside window Fixed done = refl
none_beside window Limit done = refl
none_beside window (Fault turn worker) done = absurd (not_done 8 8 refl (λ e. omega (arith, e)) (λ e. omega (arith, e)) done)
none_beside window NoMemory done = absurd (not_done 11 11 refl (λ e. omega (arith, e)) (λ e. omega (arith, e)) done)

-- what a run that is done comes to, in its last step
record IsDoneBy (saves : Bool) (name : List ℕ) (old new : Outside) (end : End) (old_size size status : ℕ) : Type 0 where
  files : new.files ≡ saved saves (log_name name) (log_text_of end size) (saved saves name end.file.items old.files)
  output : new.output ≡ appended (summary_text_of name old_size size end) old.output
  is : status ≡ end_status end.why

said_done : (old new : Outside) (line : List ℕ) (n status : ℕ) → Puts old new line n 10 status → IsDone status → (new.output ≡ appended line old.output) × (status ≡ n)
said_done old new line n status (said_whole put is) done = (put, is)
said_done old new line n status (said_cut m put rose is) done = absurd (not_done status 10 is (λ e. omega (arith, e)) (λ e. omega (arith, e)) done)
said_done old new line n status (said_starved m put is) done = absurd (starved_is status is (is_of_ends status done))

concluded : (saves : Bool) (name : List ℕ) (old new : Outside) (end : End) (old_size size status : ℕ) → Concludes saves name old new end old_size size status → IsDone status
    → IsDoneBy saves name old new end old_size size status
concluded saves name old new end old_size size status (unfinished same is) done = absurd (starved_is status is (is_of_ends status done))
concluded saves name old new end old_size size status (unwritten ended fails) done = absurd (fails_is saves old new name status fails.fails (is_of_ends status done))
concluded saves name old new end old_size size status (unlogged written ended first fails) done = absurd (fails_is saves written new (log_name name) status fails.fails (is_of_ends status done))
concluded saves name old new end old_size size status (summed_up ended files calls said) done =
    let it = said_done old new (summary_text_of name old_size size end) (end_status end.why) status said done in
    record { files = files; output = it.0; is = it.1 }

module _ (t : Task) (By : Claiming) (told_of : (since after : Judging) (bytes : List ℕ) (end : End) → By.Claims since after bytes end → IsToldReduction t bytes end)
    (text : Text) (old new : Outside) (status : ℕ) (done : IsDone status) where
  finished : (read : Outside) (before since after : Judging) (bytes : List ℕ) → IsUnchanged old read → IsAnswered t text before since bytes Yes
      → Finishes t bytes By read new since after status → HasReduced t By text old new before after status
  finished read before since after bytes same answered (unstarted unmoved quiet is) = absurd (starved_is status is (is_of_ends status done))
  finished read before since after bytes same answered (uncopied fails quiet) = absurd (fails_is t.saves read new (copy_name t.name) status fails.fails (is_of_ends status done))
  finished read before since after bytes same answered (reduced copied end old_size size copy reduction old_sized sized ends) =
      let claimed = told_of since after bytes end reduction in
      let it = concluded t.saves t.name copied new end old_size size status ends done in
      record {
        bytes = bytes;
        end = end;
        old_size = old_size;
        size = size;
        has = answered.asked.has;
        lawful = answered.asked.lawful;
        old_sized = old_sized;
        sized = sized;
        ended = it.is;
        reduction = λ told. told_whole (ReducesFileAsTold t.search bytes) bytes t.limit end end.why (subst IsDone it.is done) (claimed.reduction told);
        fixed_point = λ told is. claimed.fixed_point told (is_fixed end.why (sym it.is ∙ is));
        files = it.files ∙ ap (λ m. saved t.saves (log_name t.name) (log_text_of end size) (saved t.saves t.name end.file.items m)) (copy.files ∙ ap (λ m. saved t.saves (copy_name t.name) bytes m) same.files);
        output = it.output ∙ ap (λ o. appended (summary_text_of t.name old_size size end) o) (copy.output ∙ same.output);
        yes = λ told. answered.answered.told (told bytes);
        since = since;
        asked_few = answered.asked.few;
        claimed = reduction;
      }

  pub task_done : (before after : Judging) → RunsBy t By text old new before after status → HasReduced t By text old new before after status
  task_done before after (refuses r causes asked files calls said) = absurd (refused_is old new t.name r status said (is_of_ends status done))
  task_done before after (starves asked files calls silent is) = absurd (starved_is status is (is_of_ends status done))
  task_done before after (reduces bytes read since same calls answered finishes) = finished read before since after bytes same answered finishes

-- The judges are asked about the file, and then at most once for each turn and, for each acceptance, for the positions of its epoch behind it.
pub few_asked : (t : Task) (text : Text) (old new : Outside) (before after : Judging) (status : ℕ) → IsDone status → (it : HasReduced t (by_epochs t) text old new before after status)
    → AsksAtMost (it.end.turns + length it.end.accepted.items * (t.window - 1) + 1) before after
few_asked t text old new before after status done it = omega (arith, it.asked_few, it.claimed.few, none_beside t.window it.end.why (subst IsDone it.ended done))

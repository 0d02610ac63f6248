-- What the first file has and every accepted variant has, the result has.
use Rattle.std.proofs.Common.{ℕ, true, List, length, Option, sym, subst}
use Rattle.cr_reduce.specs.Bench.{Judging}
use Rattle.cr_reduce.specs.Reduction.{FailedTrials, Outcome, Proposals, Reduces, State, Trial, cursors_of, moved, next_round, none_fails, start_of, taken}
use Rattle.cr_reduce.specs.Reduction.Reduces.{new_round, fixed, spent, short, accepts, rejects, fails}
use Rattle.cr_reduce.specs.Search.{AcceptsAsTold, IsAllTold, RejectsAsTold}
use Rattle.cr_main_task.specs.Headline.{HasReduced}
use Rattle.cr_main_task.specs.Outside.{Outside}
use Rattle.cr_main_task.specs.Run.{Claiming}
use Rattle.cr_main_task.specs.Task.{Task, Text}

module _ (P : List ℕ → Type 0) (p : Proposals) (Accepts Rejects : Trial) (Fails : FailedTrials) (limit : Option ℕ) (each : (file variant : List ℕ) → Accepts file variant → P variant) where
  pub out_has : (st : State) (out : Outcome) → P st.file → Reduces p Accepts Rejects Fails limit st out → P out.file
  out_has st out has (new_round end changed rest) = out_has (next_round st) out has rest
  out_has st out has (fixed end changed e) = subst (λ o. P o.file) (sym e) has
  out_has st out has (spent below none e) = subst (λ o. P o.file) (sym e) has
  out_has st out has (short to turns before below all count none e) = subst (λ o. P o.file) (sym e) has
  out_has st out has (accepts position at size turns next first sized count within offered rest) =
      out_has (taken st at size turns next) out (each st.file (st.offer.bytes at) first.accepted) rest
  out_has st out has (rejects turns below all count within rest) = out_has (moved st (length (cursors_of st.offer)) turns) out has rest
  out_has st out has (fails position at turns worker low there before failed count within e) = subst (λ o. P o.file) (sym e) has

-- where the answers are told, the answer about the result is yes
pub result_tells : (t : Task) (By : Claiming) (text : Text) (old new : Outside) (before after : Judging) (status : ℕ) → (it : HasReduced t By text old new before after status)
    → IsAllTold t.search → t.search.Tells it.end.file.items true
result_tells t By text old new before after status it told =
    let run = it.reduction told in
    out_has (λ file. t.search.Tells file true) t.search.Offers (AcceptsAsTold t.search) (RejectsAsTold t.search) none_fails t.limit (λ file variant accepted. accepted.answered)
    (start_of it.bytes run.0) _ (it.yes told) run.2

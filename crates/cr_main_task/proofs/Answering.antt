-- What was asked about the file, and what it was answered.
use Rattle.std.proofs.Common.{◌≡◌, ◌≢◌, inl, inr, ℕ, Bool, true, false, List, [], ◌∷◌, Option, refl, ap, subst, sym}
use Rattle.cr_outside.specs.declared.judge.Answer.{Answer}
use Rattle.cr_outside.specs.declared.judge.Answer.TheVariants.{Yes, No, Failed, NoMemory}
use Rattle.cr_outside.specs.Judge.{Call}
use Rattle.cr_outside.specs.Question.{AnswersAsTold, AsksOnce}
use Rattle.cr_reduce.specs.Bench.{AsksAtMost, AsksFirst, CallsAbout, GoesOn, Judging}
use Rattle.cr_reduce.specs.Trials.{AnswerInRun}
use Rattle.cr_reduce.proofs.Runs.{answered_once}
use Rattle.cr_main_task.specs.Run.{IsAnswered, IsAsked}
use Rattle.cr_main_task.specs.Task.{Task, given}

one_call : (old new : Option (List Call)) (rest : List (Option (List Call))) (name file : List ℕ) (answer : Answer) → AsksOnce old new name file answer → CallsAbout (old ∷ rest) (new ∷ rest) name file
one_call old new rest name file Yes it = inr (it.0, Yes, ap (λ c. c ∷ rest) it.1)
one_call old new rest name file No it = inr (it.0, No, ap (λ c. c ∷ rest) it.1)
one_call old new rest name file Failed it = inr (it.0, Failed, ap (λ c. c ∷ rest) it.1)
one_call old new rest name file NoMemory (inl same) = inl (ap (λ c. c ∷ rest) same)
one_call old new rest name file NoMemory (inr made) = elim made.1 [
  | inl same ↦ inl (ap (λ c. c ∷ rest) same)
  | inr gained ↦ inr (made.0, NoMemory, ap (λ c. c ∷ rest) gained)
]

first_call : (old new : List (Option (List Call))) (name file : List ℕ) (answer : Answer) → AsksFirst old new name file answer → CallsAbout old new name file
first_call [] new name file answer it = absurd it
first_call (x ∷ xs) [] name file answer it = absurd it
first_call (x ∷ xs) (y ∷ ys) name file answer it = subst (λ rest. CallsAbout (x ∷ xs) (y ∷ rest) name file) (sym it.1) (one_call x y xs name file answer it.0)

-- one call was made at most, about this file
asked_once : (asks : Bool) (old new : List (Option (List Call))) (name file : List ℕ) (answer : Answer) → (asks ≡ true → AsksFirst old new name file answer) → (asks ≡ false → new ≡ old)
    → CallsAbout old new name file
asked_once true old new name file answer once silent = first_call old new name file answer (once refl)
asked_once false old new name file answer once silent = inl (silent refl)

-- a run on these bytes, where the question was handed them
module _ (t : Task) (before after : Judging) (bytes handed : List ℕ) (same : handed ≡ bytes) (answer : Answer)
    (once : t.search.asks ≡ true → AsksFirst before.calls after.calls t.search.name handed answer) where
  pub is_asked : t.search.Lawful bytes → (t.search.asks ≡ false → after.calls ≡ before.calls) → AsksAtMost 1 before after → GoesOn before after → IsAsked t (given bytes) before after bytes
  is_asked lawful silent few on = record {
    has = refl;
    lawful = lawful;
    calls = subst (CallsAbout before.calls after.calls t.search.name) same (asked_once t.search.asks before.calls after.calls t.search.name handed answer once silent);
    few = few;
    goes_on = on;
  }

  pub is_answered : answer ≢ NoMemory → AnswersAsTold t.search.asks (t.search.Tells handed) answer → IsAsked t (given bytes) before after bytes → IsAnswered t (given bytes) before after bytes answer
  is_answered said told asked = record {
    asked = asked;
    answered = subst (λ file. AnswerInRun t.search.asks t.search.Tells t.search.name before.calls after.calls file answer) same
        (answered_once t.search.asks t.search.Tells t.search.name before.calls after.calls handed answer said once told);
  }

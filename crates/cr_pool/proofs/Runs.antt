-- Calls in a run: lists of calls that go on, and answers that stay given.
use Rattle.std.proofs.Common.{◌≡◌, ◌≢◌, inl, inr, ℕ, ◌+◌, ◌≤◌, Bool, true, false, List, [], ◌∷◌, ◌++◌, Option, Some, None, subst, sym, ap, ◌∙◌, refl, append_assoc, arith}
use Rattle.std.proofs.lemmas.List.{append-nil}
use Rattle.cr_outside.specs.declared.judge.Answer.{Answer}
use Rattle.cr_outside.specs.declared.judge.Answer.TheVariants.{Yes, No, Failed, NoMemory}
use Rattle.cr_outside.specs.Judge.{Call, call_of, with_call}
use Rattle.cr_outside.specs.Question.{AnswersAsTold, AsksOnce, CountsOnce}
use Rattle.cr_pool.specs.Trials.{GoesOn, HasCalled, AnswerInRun}

pub has_called-later : (before now later : Option (List Call)) (call : Call) → HasCalled before now call → GoesOn now later → HasCalled before later call
has_called-later None now later call has on = tt
has_called-later (Some list) now later call has on =
    let next : GoesOn (Some (list ++ has.0 ++ call ∷ has.1)) later = subst (λ x. GoesOn x later) has.2 on in
    (has.0, has.1 ++ next.0, next.1 ∙ ap Some (append_assoc (list ++ has.0) (call ∷ has.1) next.0))

pub has_called-earlier : (before middle now : Option (List Call)) (call : Call) → GoesOn before middle → HasCalled middle now call → HasCalled before now call
has_called-earlier None middle now call on has = tt
has_called-earlier (Some list) middle now call on has =
    let in_middle : HasCalled (Some (list ++ on.0)) now call = subst (λ x. HasCalled x now call) on.1 has in
    (on.0 ++ in_middle.0, in_middle.1, in_middle.2 ∙ ap (λ front. Some (front ++ call ∷ in_middle.1)) (append_assoc list on.0 in_middle.0))

-- the one call that was made
called : (old new : Option (List Call)) (call : Call) → new ≡ with_call call old → HasCalled old new call
called None new call is = tt
called (Some list) new call is = ([], [], is ∙ ap (λ front. Some (front ++ call ∷ [])) (sym (append-nil list)))

pub called_once : (old new : Option (List Call)) (name file : List ℕ) (answer : Answer) → answer ≢ NoMemory → AsksOnce old new name file answer
    → (test : List ℕ) × HasCalled old new (call_of test name file answer)
called_once old new name file Yes given once = (once.0, called old new (call_of once.0 name file Yes) once.1)
called_once old new name file No given once = (once.0, called old new (call_of once.0 name file No) once.1)
called_once old new name file Failed given once = (once.0, called old new (call_of once.0 name file Failed) once.1)
called_once old new name file NoMemory given once = absurd (given refl)

-- The answer to the one question.
pub answered_once : (asks : Bool) (Tells : List ℕ → Bool → Type 0) (name : List ℕ) (old new : Option (List Call)) (file : List ℕ) (answer : Answer) → answer ≢ NoMemory
    → (asks ≡ true → AsksOnce old new name file answer) → AnswersAsTold asks (Tells file) answer → AnswerInRun asks Tells name old new file answer
answered_once asks Tells name old new file answer given once told = record { asked = λ uses. called_once old new name file answer given (once uses); told = told }

-- one call more at most
pub one_count : (old new : ℕ) (answer : Answer) → CountsOnce old new answer → new ≤ old + 1
one_count old new Yes once = omega (arith, once)
one_count old new No once = omega (arith, once)
one_count old new Failed once = omega (arith, once)
one_count old new NoMemory (inl same) = omega (arith, same)
one_count old new NoMemory (inr more) = omega (arith, more)

pub is_so : (b : Bool) → (b ≡ false → ⊥) → b ≡ true
is_so true never = refl
is_so false never = absurd (never refl)

-- An answer stays given.
pub answer_in_run-later : (asks : Bool) (Tells : List ℕ → Bool → Type 0) (name : List ℕ) (before now later : Option (List Call)) (variant : List ℕ) (answer : Answer)
    → AnswerInRun asks Tells name before now variant answer → GoesOn now later → AnswerInRun asks Tells name before later variant answer
answer_in_run-later asks Tells name before now later variant answer given on = record {
  asked = λ uses. let it = given.asked uses in (it.0, has_called-later before now later (call_of it.0 name variant answer) it.1 on);
  told = given.told;
}

-- An answer that was given since a later moment was given since an earlier one.
pub answer_in_run-earlier : (asks : Bool) (Tells : List ℕ → Bool → Type 0) (name : List ℕ) (before middle now : Option (List Call)) (variant : List ℕ) (answer : Answer)
    → GoesOn before middle → AnswerInRun asks Tells name middle now variant answer → AnswerInRun asks Tells name before now variant answer
answer_in_run-earlier asks Tells name before middle now variant answer on given = record {
  asked = λ uses. let it = given.asked uses in (it.0, has_called-earlier before middle now (call_of it.0 name variant answer) on it.1);
  told = given.told;
}

-- Calls in a run: lists of calls that go on, and answers that stay given.
use Rattle.std.proofs.Common.{◌≡◌, ◌≢◌, ◌+◌, ◌≤◌, ℕ, zero, suc, Bool, true, false, List, [], ◌∷◌, ◌++◌, map, length, drop, ◌<◌, Option, Some, None, subst, sym, ap, ◌∙◌, refl, append_assoc, inl, inr, arith}
use Rattle.std.proofs.lemmas.List.{append-nil}
use Rattle.std.proofs.lemmas.List.Elements.{All-nil, All-push, All-append}
use Rattle.cr_outside.specs.declared.judge.Answer.{Answer}
use Rattle.cr_outside.specs.declared.judge.Judge.{Ghosts as JudgeGhosts}
use Rattle.cr_outside.specs.declared.judge.Answer.TheVariants.{Yes, No, Failed, NoMemory}
use Rattle.cr_outside.specs.Faults.{Rose}
use Rattle.cr_outside.specs.Judge.{Call, call_of, with_call}
use Rattle.cr_outside.specs.Question.{AnswersAsTold, AsksOnce, CountsOnce, Says}
use Rattle.cr_pool.specs.Tally.{asked_in, first_says, tallies_of, tally_at}
use Rattle.cr_pool.specs.Trials.{GoesOn as CallsGoOn}
use Rattle.cr_pool.proofs.Runs.{called_once, has_called-earlier, has_called-later, one_count}
use Rattle.cr_outside.proofs.Counts.{rose_earlier}
use Rattle.cr_reduce.specs.Bench.{AllGained, AnyCall, AsksFirst, CalledBy, Each, Gained, AsksAtMost, GoesOn, Judging, RoseAt, judging_of}
use Rattle.cr_reduce.specs.Trials.{AnswerInRun, HasFailed}

-- one judge's calls

gained-refl : (Is : Call → Type 0) (calls : Option (List Call)) → Gained Is calls calls
gained-refl Is None = refl
gained-refl Is (Some list) = ([], ap Some (sym (append-nil list)), All-nil Is)

gained-trans : (Is : Call → Type 0) (a b c : Option (List Call)) → Gained Is a b → Gained Is b c → Gained Is a c
gained-trans Is None b c first second = subst (λ x. Gained Is x c) first second
gained-trans Is (Some list) b c first second =
    let next : Gained Is (Some (list ++ first.0)) c = subst (λ x. Gained Is x c) first.1 second in
    (first.0 ++ next.0, next.1 ∙ ap Some (append_assoc list first.0 next.0), All-append Is first.0 next.0 first.2 next.2)

gained-map : (Is Was : Call → Type 0) → ((call : Call) → Is call → Was call) → (a b : Option (List Call)) → Gained Is a b → Gained Was a b
gained-map Is Was says None b it = it
gained-map Is Was says (Some list) b it = (it.0, it.1, λ k d low. says _ (it.2 k d low))

gained_one : (Is : Call → Type 0) (old : Option (List Call)) (call : Call) → Is call → Gained Is old (with_call call old)
gained_one Is None call is = refl
gained_one Is (Some list) call is = (call ∷ [], refl, All-push Is [] call (All-nil Is) is)

-- each judge's

pub all_gained-refl : (Is : Call → Type 0) (a : List (Option (List Call))) → AllGained Is a a
all_gained-refl Is [] = tt
all_gained-refl Is (x ∷ xs) = (gained-refl Is x, all_gained-refl Is xs)

pub all_gained-trans : (Is : Call → Type 0) (a b c : List (Option (List Call))) → AllGained Is a b → AllGained Is b c → AllGained Is a c
all_gained-trans Is [] [] [] first second = tt
all_gained-trans Is [] [] (z ∷ zs) first second = absurd second
all_gained-trans Is [] (y ∷ ys) c first second = absurd first
all_gained-trans Is (x ∷ xs) [] c first second = absurd first
all_gained-trans Is (x ∷ xs) (y ∷ ys) [] first second = absurd second
all_gained-trans Is (x ∷ xs) (y ∷ ys) (z ∷ zs) first second = (gained-trans Is x y z first.0 second.0, all_gained-trans Is xs ys zs first.1 second.1)

pub all_gained-map : (Is Was : Call → Type 0) → ((call : Call) → Is call → Was call) → (a b : List (Option (List Call))) → AllGained Is a b → AllGained Was a b
all_gained-map Is Was says [] [] it = tt
all_gained-map Is Was says [] (y ∷ ys) it = absurd it
all_gained-map Is Was says (x ∷ xs) [] it = absurd it
all_gained-map Is Was says (x ∷ xs) (y ∷ ys) it = (gained-map Is Was says x y it.0, all_gained-map Is Was says xs ys it.1)

-- counts of faults

later-refl : (a : List ℕ) → Each (λ old new. old ≤ new) a a
later-refl [] = tt
later-refl (x ∷ xs) = (omega arith, later-refl xs)

later-trans : (a b c : List ℕ) → Each (λ old new. old ≤ new) a b → Each (λ old new. old ≤ new) b c → Each (λ old new. old ≤ new) a c
later-trans [] [] [] first second = tt
later-trans [] [] (z ∷ zs) first second = absurd second
later-trans [] (y ∷ ys) c first second = absurd first
later-trans (x ∷ xs) [] c first second = absurd first
later-trans (x ∷ xs) (y ∷ ys) [] first second = absurd second
later-trans (x ∷ xs) (y ∷ ys) (z ∷ zs) first second = (omega (arith, first.0, second.0), later-trans xs ys zs first.1 second.1)

pub rose_at-earlier : (worker : ℕ) (a b c : List ℕ) → Each (λ old new. old ≤ new) a b → RoseAt worker b c → RoseAt worker a c
rose_at-earlier worker [] [] c less rose = rose
rose_at-earlier worker [] (y ∷ ys) c less rose = absurd less
rose_at-earlier worker (x ∷ xs) [] c less rose = absurd less
rose_at-earlier zero (x ∷ xs) (y ∷ ys) [] less rose = rose
rose_at-earlier zero (x ∷ xs) (y ∷ ys) (z ∷ zs) less rose = rose_earlier x y z less.0 rose
rose_at-earlier (suc worker) (x ∷ xs) (y ∷ ys) [] less rose = rose
rose_at-earlier (suc worker) (x ∷ xs) (y ∷ ys) (z ∷ zs) less rose = rose_at-earlier worker xs ys zs less.1 rose

pub goes_on-refl : (a : Judging) → GoesOn a a
goes_on-refl a = record { calls = all_gained-refl AnyCall a.calls; faults = later-refl a.faults }

pub goes_on-trans : (a b c : Judging) → GoesOn a b → GoesOn b c → GoesOn a c
goes_on-trans a b c first second = record {
  calls = all_gained-trans AnyCall a.calls b.calls c.calls first.calls second.calls;
  faults = later-trans a.faults b.faults c.faults first.faults second.faults;
}

-- a call stays made

goes_on_as_there : (before now : Option (List Call)) → Gained AnyCall before now → CallsGoOn before now
goes_on_as_there None now on = on
goes_on_as_there (Some list) now on = (on.0, on.1)

pub called_by-later : (worker : ℕ) (a b c : List (Option (List Call))) (call : Call) → CalledBy worker a b call → AllGained AnyCall b c → CalledBy worker a c call
called_by-later zero [] b c call has on = absurd has
called_by-later (suc worker) [] b c call has on = absurd has
called_by-later zero (x ∷ xs) [] c call has on = absurd has
called_by-later (suc worker) (x ∷ xs) [] c call has on = absurd has
called_by-later worker (x ∷ xs) (y ∷ ys) [] call has on = absurd on
called_by-later zero (x ∷ xs) (y ∷ ys) (z ∷ zs) call has on = has_called-later x y z call has (goes_on_as_there y z on.0)
called_by-later (suc worker) (x ∷ xs) (y ∷ ys) (z ∷ zs) call has on = called_by-later worker xs ys zs call has on.1

pub called_by-earlier : (worker : ℕ) (a b c : List (Option (List Call))) (call : Call) → AllGained AnyCall a b → CalledBy worker b c call → CalledBy worker a c call
called_by-earlier worker [] [] c call on has = has
called_by-earlier worker [] (y ∷ ys) c call on has = absurd on
called_by-earlier worker (x ∷ xs) [] c call on has = absurd on
called_by-earlier zero (x ∷ xs) (y ∷ ys) [] call on has = has
called_by-earlier zero (x ∷ xs) (y ∷ ys) (z ∷ zs) call on has = has_called-earlier x y z call (goes_on_as_there x y on.0) has
called_by-earlier (suc worker) (x ∷ xs) (y ∷ ys) [] call on has = has
called_by-earlier (suc worker) (x ∷ xs) (y ∷ ys) (z ∷ zs) call on has = called_by-earlier worker xs ys zs call on.1 has

pub called_first : (old new : List (Option (List Call))) (name file : List ℕ) (answer : Answer) → answer ≢ NoMemory → AsksFirst old new name file answer
    → (test : List ℕ) × CalledBy 0 old new (call_of test name file answer)
called_first [] new name file answer given once = absurd once
called_first (x ∷ xs) [] name file answer given once = absurd once
called_first (x ∷ xs) (y ∷ ys) name file answer given once = called_once x y name file answer given once.0

-- The answer to the one question.
pub answered_once : (asks : Bool) (Tells : List ℕ → Bool → Type 0) (name : List ℕ) (old new : List (Option (List Call))) (file : List ℕ) (answer : Answer) → answer ≢ NoMemory
    → (asks ≡ true → AsksFirst old new name file answer) → AnswersAsTold asks (Tells file) answer → AnswerInRun asks Tells name old new file answer
answered_once asks Tells name old new file answer given once told = record { asked = λ uses. let it = called_first old new name file answer given (once uses) in (0, it.0, it.1); told = told }

-- An answer stays given.
pub answer_in_run-later : (asks : Bool) (Tells : List ℕ → Bool → Type 0) (name : List ℕ) (before now later : List (Option (List Call))) (variant : List ℕ) (answer : Answer)
    → AnswerInRun asks Tells name before now variant answer → AllGained AnyCall now later → AnswerInRun asks Tells name before later variant answer
answer_in_run-later asks Tells name before now later variant answer given on = record {
  asked = λ uses. let it = given.asked uses in (it.0, it.1, called_by-later it.0 before now later (call_of it.1 name variant answer) it.2 on);
  told = given.told;
}

-- An answer that was given since a later moment was given since an earlier one.
pub answer_in_run-earlier : (asks : Bool) (Tells : List ℕ → Bool → Type 0) (name : List ℕ) (before middle now : List (Option (List Call))) (variant : List ℕ) (answer : Answer)
    → AllGained AnyCall before middle → AnswerInRun asks Tells name middle now variant answer → AnswerInRun asks Tells name before now variant answer
answer_in_run-earlier asks Tells name before middle now variant answer on given = record {
  asked = λ uses. let it = given.asked uses in (it.0, it.1, called_by-earlier it.0 before middle now (call_of it.1 name variant answer) on it.2);
  told = given.told;
}

-- So is a failed test.
pub has_failed-earlier : (asks : Bool) (name : List ℕ) (before middle now : Judging) (worker : ℕ) (variant : List ℕ) → GoesOn before middle → HasFailed asks name middle now worker variant
    → HasFailed asks name before now worker variant
has_failed-earlier asks name before middle now worker variant on it = record {
  asked = it.asked;
  called = (it.called.0, called_by-earlier worker before.calls middle.calls now.calls (call_of it.called.0 name variant Failed) on.calls it.called.1);
  rose = rose_at-earlier worker before.faults middle.faults now.faults on.faults it.rose;
}

-- the first judge was asked, and the others are as they were
module _ {J K : Type 0} (judge : JudgeGhosts J K) where
  pub asks_first : (old new : List J) (name file : List ℕ) (answer : Answer) → 0 < length old → length new ≡ length old → drop 1 new ≡ drop 1 old
      → AsksOnce (tally_at (tallies_of judge old) 0).calls (tally_at (tallies_of judge new) 0).calls name file answer → AsksFirst (map judge.calls old) (map judge.calls new) name file answer
  asks_first [] new name file answer some count others once = absurd (omega arith)
  asks_first (x ∷ xs) [] name file answer some count others once = absurd (omega arith)
  asks_first (x ∷ xs) (y ∷ ys) name file answer some count others once = (once, ap (λ js. map judge.calls js) others)

  pub rose_first : (old new : List J) → 0 < length old → length new ≡ length old → Rose (tally_at (tallies_of judge old) 0).faults (tally_at (tallies_of judge new) 0).faults
      → RoseAt 0 (map judge.faults old) (map judge.faults new)
  rose_first [] new some count rose = absurd (omega arith)
  rose_first (x ∷ xs) [] some count rose = absurd (omega arith)
  rose_first (x ∷ xs) (y ∷ ys) some count rose = rose

  gained_call : (old new : Option (List Call)) (call : Call) → new ≡ with_call call old → Gained AnyCall old new
  gained_call old new call is = subst (Gained AnyCall old) (sym is) (gained_one AnyCall old call tt)

  gained_once : (old new : Option (List Call)) (name file : List ℕ) (answer : Answer) → AsksOnce old new name file answer → Gained AnyCall old new
  gained_once old new name file Yes once = gained_call old new (call_of once.0 name file Yes) once.1
  gained_once old new name file No once = gained_call old new (call_of once.0 name file No) once.1
  gained_once old new name file Failed once = gained_call old new (call_of once.0 name file Failed) once.1
  gained_once old new name file NoMemory (inl same) = subst (Gained AnyCall old) (sym same) (gained-refl AnyCall old)
  gained_once old new name file NoMemory (inr (test, inl same)) = subst (Gained AnyCall old) (sym same) (gained-refl AnyCall old)
  gained_once old new name file NoMemory (inr (test, inr is)) = gained_call old new (call_of test name file NoMemory) is

  later_asked : (old new : List J) (name file : List ℕ) (answer : Answer) → 0 < length old → length new ≡ length old → drop 1 new ≡ drop 1 old
      → AsksOnce (tally_at (tallies_of judge old) 0).calls (tally_at (tallies_of judge new) 0).calls name file answer
      → (tally_at (tallies_of judge old) 0).faults ≤ (tally_at (tallies_of judge new) 0).faults
      → GoesOn (judging_of judge old) (judging_of judge new)
  later_asked [] new name file answer some count others once later = absurd (omega arith)
  later_asked (x ∷ xs) [] name file answer some count others once later = absurd (omega arith)
  later_asked (x ∷ xs) (y ∷ ys) name file answer some count others once later = record {
    calls = (gained_once (judge.calls x) (judge.calls y) name file answer once, subst (λ js. AllGained AnyCall (map judge.calls xs) (map judge.calls js)) (sym others) (all_gained-refl AnyCall (map judge.calls xs)));
    faults = (later, subst (λ js. Each (λ a b. a ≤ b) (map judge.faults xs) (map judge.faults js)) (sym others) (later-refl (map judge.faults xs)));
  }

  pub goes_on_first : (asks : Bool) (old new : List J) (name file : List ℕ) (answer : Answer) → 0 < length old → length new ≡ length old → drop 1 new ≡ drop 1 old
      → (asks ≡ true → AsksOnce (tally_at (tallies_of judge old) 0).calls (tally_at (tallies_of judge new) 0).calls name file answer) → (asks ≡ false → new ≡ old)
      → (tally_at (tallies_of judge old) 0).faults ≤ (tally_at (tallies_of judge new) 0).faults
      → GoesOn (judging_of judge old) (judging_of judge new)
  goes_on_first true old new name file answer some count others once silent later = later_asked old new name file answer some count others (once refl) later
  goes_on_first false old new name file answer some count others once silent later =
      subst (λ js. GoesOn (judging_of judge old) (judging_of judge js)) (sym (silent refl)) (goes_on-refl (judging_of judge old))

  -- one call was asked at most
  pub asked_once : (asks : Bool) (old new : List J) (answer : Answer) → 0 < length old → length new ≡ length old → drop 1 new ≡ drop 1 old
      → (asks ≡ true → CountsOnce (tally_at (tallies_of judge old) 0).asked (tally_at (tallies_of judge new) 0).asked answer) → (asks ≡ false → new ≡ old)
      → AsksAtMost 1 (judging_of judge old) (judging_of judge new)
  asked_once asks [] new answer some count others counted silent = absurd (omega arith)
  asked_once asks (x ∷ xs) [] answer some count others counted silent = absurd (omega arith)
  asked_once true (x ∷ xs) (y ∷ ys) answer some count others counted silent =
      omega (arith, one_count (judge.asked x) (judge.asked y) answer (counted refl), ap (λ js. asked_in (tallies_of judge js)) others)
  asked_once false (x ∷ xs) (y ∷ ys) answer some count others counted silent = omega (arith, ap (λ js. asked_in (tallies_of judge js)) (silent refl))

  -- judges of the same keys say the same
  pub says_kept : (old new : List J) → map judge.key new ≡ map judge.key old → first_says judge.key judge.says new ≡ first_says judge.key judge.says old
  says_kept old new same = first_of new ∙ ap (says_at judge.says) same ∙ sym (first_of old)
    where
      says_at : (K → Says) → List K → Says
      says_at says [] = λ test name file. None
      says_at says (key ∷ keys) = says key

      first_of : (js : List J) → first_says judge.key judge.says js ≡ says_at judge.says (map judge.key js)
      first_of [] = refl
      first_of (j ∷ js) = refl

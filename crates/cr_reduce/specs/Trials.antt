-- When a variant is accepted, and when its trial is rejected.
use Rattle.std.specs.Prelude.{◌≡◌, ℕ, Bool, true, List, Option}
use Rattle.cr_outside.specs.declared.judge.Answer.{Answer}
use Rattle.cr_outside.specs.declared.judge.Answer.TheVariants.{Failed}
use Rattle.cr_outside.specs.Judge.{Call, call_of}
use Rattle.cr_outside.specs.Question.{AnswersAsTold}
use Rattle.cr_reduce.specs.Bench.{CalledBy, Judging, RoseAt}
use Rattle.cr_reduce.specs.Sizes.{IsSmaller}
pub use Rattle.cr_pool.specs.Trials.{IsAccepted, IsRejected, ToldAnswer}

-- The answer about a variant in one run, of which `before` and `now` are the calls at its beginning and so far: where
-- the question asks, a call of some worker's judge answered so; where the answer is told, it is the told one.
pub record AnswerInRun (asks : Bool) (Tells : List ℕ → Bool → Type 0) (name : List ℕ) (before now : List (Option (List Call))) (variant : List ℕ) (answer : Answer) : Type 0 where
  pub asked : asks ≡ true → (worker : ℕ) × (test : List ℕ) × CalledBy worker before now (call_of test name variant answer)
  pub told : AnswersAsTold asks (Tells variant) answer

-- A call of this worker's judge about a variant answered that the test failed, its count of faults risen; so the question asks.
pub record HasFailed (asks : Bool) (name : List ℕ) (before now : Judging) (worker : ℕ) (variant : List ℕ) : Type 0 where
  pub asked : asks ≡ true
  pub called : (test : List ℕ) × CalledBy worker before.calls now.calls (call_of test name variant Failed)
  pub rose : RoseAt worker before.faults now.faults

-- A trial failed with a worker where the variant is smaller and lawful, and that worker's test failed.
pub record IsFailed (Lawful : List ℕ → Type 0) (asks : Bool) (name : List ℕ) (before now : Judging) (worker : ℕ) (file variant : List ℕ) : Type 0 where
  pub smaller : IsSmaller variant file
  pub lawful : Lawful variant
  pub failed : HasFailed asks name before now worker variant

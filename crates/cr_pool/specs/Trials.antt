-- When a variant is accepted, when its trial is rejected, and how an answer is known.
use Rattle.std.specs.Prelude.{◌≡◌, ℕ, ◌<◌, ◌≤◌, Bool, true, false, List, ◌∷◌, ◌++◌, Option, Some, None}
use Rattle.cr_outside.specs.declared.judge.Answer.{Answer}
use Rattle.cr_outside.specs.declared.judge.Answer.TheVariants.{Yes, No, Failed}
use Rattle.cr_outside.specs.Judge.{Call, call_of}
use Rattle.cr_outside.specs.Question.{AnswersAsTold}
use Rattle.cr_pool.specs.Sizes.{HasSize, IsSmaller}

-- A variant is accepted where it is smaller, lawful, and the answer about it is yes.
pub record IsAccepted (Lawful : List ℕ → Type 0) (Answered : List ℕ → Answer → Type 0) (file variant : List ℕ) : Type 0 where
  pub smaller : IsSmaller variant file
  pub lawful : Lawful variant
  pub answered : Answered variant Yes

-- A trial is rejected where the variant isn't smaller, isn't lawful, or is answered no.
pub data IsRejected (Lawful : List ℕ → Type 0) (Answered : List ℕ → Answer → Type 0) (file variant : List ℕ) : Type 0 where
  not_smaller : (IsSmaller variant file → ⊥) → IsRejected Lawful Answered file variant
  unlawful : (Lawful variant → ⊥) → IsRejected Lawful Answered file variant
  answered_no : Answered variant No → IsRejected Lawful Answered file variant

-- A trial failed where the variant is smaller and lawful, and the answer about it is that the test failed.
pub record IsFailed (Lawful : List ℕ → Type 0) (Answered : List ℕ → Answer → Type 0) (file variant : List ℕ) : Type 0 where
  pub smaller : IsSmaller variant file
  pub lawful : Lawful variant
  pub answered : Answered variant Failed

-- the told answer about a variant
abbrev pub ToldAnswer : (List ℕ → Bool → Type 0) → List ℕ → Answer → Type 0
ToldAnswer Tells variant Yes = Tells variant true
ToldAnswer Tells variant No = Tells variant false
ToldAnswer Tells variant _ = ⊥

-- Of a told list of calls, the later one goes on where the earlier one stopped.
abbrev pub GoesOn : Option (List Call) → Option (List Call) → Type 0
GoesOn None now = now ≡ None
GoesOn (Some before) now = (more : List Call) × (now ≡ Some (before ++ more))

-- Where the calls are told, this call stands among those made since.
abbrev pub HasCalled : Option (List Call) → Option (List Call) → Call → Type 0
HasCalled None now call = Unit {0}
HasCalled (Some before) now call = (some rest : List Call) × (now ≡ Some (before ++ some ++ call ∷ rest))

-- The answer of one judge about a variant, of whose calls `before` and `now` are those at the beginning and so far: where the
-- question asks, a call since answered so; where the answer is told, it is the told one.
pub record AnswerInRun (asks : Bool) (Tells : List ℕ → Bool → Type 0) (name : List ℕ) (before now : Option (List Call)) (variant : List ℕ) (answer : Answer) : Type 0 where
  pub asked : asks ≡ true → (test : List ℕ) × HasCalled before now (call_of test name variant answer)
  pub told : AnswersAsTold asks (Tells variant) answer

-- A lawful variant of this size, below a bound.
pub record IsGood (Lawful : List ℕ → Type 0) (variant : List ℕ) (bound size : ℕ) : Type 0 where
  pub has : HasSize variant size
  pub less : size < bound
  pub lawful : Lawful variant

-- The variant isn't below the bound.
abbrev pub IsLarge : List ℕ → ℕ → Type 0
IsLarge variant bound = (n : ℕ) → HasSize variant n → bound ≤ n

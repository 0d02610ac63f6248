-- What a question answers about a file, and what it does to the judge.
use Rattle.std.specs.Prelude.{◌≡◌, ◌⊎◌, ℕ, Bool, true, false, List, Option, Some}
use Rattle.cr_outside.specs.Faults.{raised}
use Rattle.cr_outside.specs.Judge.{Call, Gains}
use Rattle.cr_outside.specs.declared.judge.Answer.{Answer}
use Rattle.cr_outside.specs.declared.judge.Answer.TheVariants.{Yes, No, NoMemory}

-- what a judge says at its key, where it tells that: to a test, about a file of a name
abbrev pub Says : Type 0
Says = List ℕ → List ℕ → List ℕ → Option Bool

-- The answer is told: the question asks no judge, or what it tells is an answer.
abbrev pub IsTold : Bool → (Bool → Type 0) → Type 0
IsTold asks Tells = (asks ≡ false) ⊎ ((answer : Bool) × Tells answer)

-- Where the answer is told, Yes comes only where it is yes, and No only where it is no.
abbrev pub AnswersAsTold : Bool → (Bool → Type 0) → Answer → Type 0
AnswersAsTold asks Tells Yes = IsTold asks Tells → Tells true
AnswersAsTold asks Tells No = IsTold asks Tells → Tells false
AnswersAsTold asks Tells _ = Unit {0}

-- A question that asks makes exactly one call, about this name and this file, and hands on its answer; where no memory
-- is found, at most one.
abbrev pub AsksOnce : Option (List Call) → Option (List Call) → List ℕ → List ℕ → Answer → Type 0
AsksOnce old new name file NoMemory = (new ≡ old) ⊎ ((test : List ℕ) × Gains old new test name file NoMemory)
AsksOnce old new name file answer = (test : List ℕ) × Gains old new test name file answer

-- the number of calls after it
abbrev pub CountsOnce : ℕ → ℕ → Answer → Type 0
CountsOnce old new NoMemory = (new ≡ old) ⊎ (new ≡ raised old)
CountsOnce old new answer = new ≡ raised old

-- what is told is told once
pub told_once : (told : Option Bool) → told ≡ Some true → told ≡ Some false → ⊥
told_once told is_yes is_no = cc

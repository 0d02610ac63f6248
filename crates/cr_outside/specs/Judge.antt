-- Judges: they answer a test's question about a file.
use Rattle.std.specs.Prelude.{◌≡◌, ◌⊎◌, ℕ, Bool, true, false, List, [], ◌∷◌, ◌++◌, Option, Some}
use Rattle.std.specs.Option.{option_map}
use Rattle.cr_outside.specs.declared.judge.Answer.{Answer}
use Rattle.cr_outside.specs.declared.judge.Answer.TheVariants.{Yes, No, NoMemory}

-- One call: the test, the file's own name, the file and the answer.
pub record Call : Type 0 where
  pub test : List ℕ
  pub name : List ℕ
  pub file : List ℕ
  pub answer : Answer

abbrev pub call_of : List ℕ → List ℕ → List ℕ → Answer → Call
call_of test name file answer = record { test = test; name = name; file = file; answer = answer }

abbrev pub with_call : Call → Option (List Call) → Option (List Call)
with_call call calls = option_map (λ list. list ++ call ∷ []) calls

-- The calls of an object that tells them, after one more call. A call that found no memory may be missing.
abbrev pub Gains : Option (List Call) → Option (List Call) → List ℕ → List ℕ → List ℕ → Answer → Type 0
Gains old new test name file NoMemory = (new ≡ old) ⊎ (new ≡ with_call (call_of test name file NoMemory) old)
Gains old new test name file answer = new ≡ with_call (call_of test name file answer) old

-- Yes comes only where the told answer is yes, and No only where it is no.
abbrev pub Agrees : Option Bool → Answer → Type 0
Agrees (Some told) Yes = told ≡ true
Agrees (Some told) No = told ≡ false
Agrees _ _ = Unit {0}

-- this answer, or want of memory
abbrev pub IsUnlessNoMemory : Answer → Answer → Type 0
IsUnlessNoMemory wanted answer = (answer ≡ wanted) ⊎ (answer ≡ NoMemory)

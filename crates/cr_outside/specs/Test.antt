-- What a test asks: whether a file contains a text, token by token, or what a program answers.
use Rattle.std.specs.Prelude.{◌≡◌, ◌≢◌, ℕ, Bool, true, false, List, [], ◌++◌, codes, Some, Result, Ok, Err}
use Rattle.std.specs.String.{string_bytes}
use Rattle.cr_outside.specs.Question.{Says, told_once}
use Rattle.cr_outside.specs.declared.test.Test.{Test}
use Rattle.cr_outside.specs.declared.test.Test.TheVariants as test
use Rattle.cr_outside.specs.declared.test.TestFault.{TestFault}
use Rattle.cr_outside.specs.declared.test.TestFault.TheVariants as fault
use Rattle.cr_outside.specs.HasText.{IsText, TellsText}

-- the told answer of a test: what the text says, or what the judge says to the program's path
abbrev pub tells_test : Test → Says → List ℕ → List ℕ → Bool → Type 0
tells_test (test.Has text) says name file answer = TellsText text file answer
tells_test (test.Program path) says name file answer = says (string_bytes path) name file ≡ Some answer

-- only a program is asked by a judge
abbrev pub asks_test : Test → Bool
asks_test (test.Has text) = false
asks_test (test.Program path) = true

-- `has:`
abbrev pub has_prefix : List ℕ
has_prefix = codes "has:"

-- What is read of a word: `has:` and a text, or the path of a program.
abbrev pub ReadsTest : List ℕ → Result Test TestFault → Type 0
ReadsTest word (Ok (test.Has text)) = (word ≡ has_prefix ++ text) × IsText text
ReadsTest word (Ok (test.Program path)) = (string_bytes path ≡ word) × (word ≢ []) × ((rest : List ℕ) → word ≡ has_prefix ++ rest → ⊥)
ReadsTest word (Err fault.BadText) = (rest : List ℕ) × (word ≡ has_prefix ++ rest) × (IsText rest → ⊥)
ReadsTest word (Err fault.Empty) = word ≡ []
ReadsTest word (Err fault.NoMemory) = Unit {0}

-- a test has one told answer
pub one_test_answer : (t : Test) (says : Says) (name file : List ℕ) → tells_test t says name file true → tells_test t says name file false → ⊥
one_test_answer (test.Has text) says name file has lacks = lacks has
one_test_answer (test.Program path) says name file is_yes is_no = told_once (says (string_bytes path) name file) is_yes is_no

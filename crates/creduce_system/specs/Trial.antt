-- How a program is run as a test: where it finds the variant, how it is started, and what its end answers.
use Rattle.std.specs.Prelude.{ℕ, ℤ, pos, List, [], ◌∷◌, ◌++◌, Option, Some, ◌≡◌, ◌≢◌, codes, decimal, ◌==◌, ◌||◌, if◌then◌else◌}
use Rattle.std.specs.declared.result.Result.TheVariants.{Ok, Err}
use Rattle.std.specs.declared.result.Result.{Result}
use Rattle.std.specs.Process.{exit_code}
use Rattle.std.specs.declared.process.status.ExitStatus.{ExitStatus}
use Rattle.std.specs.IoError.{error_kind}
use Rattle.std.specs.declared.io.Error.{Error}
use Rattle.std.specs.declared.io.ErrorKind.TheVariants.{OutOfMemory}
use Rattle.cr_outside.specs.declared.judge.Answer.{Answer}
use Rattle.cr_outside.specs.declared.judge.Answer.TheVariants as answer

-- the folder of this judge, in the folder that the reducer was started in
abbrev pub folder_of : ℕ → List ℕ
folder_of number = codes "creduce-trial-" ++ decimal number

-- what the shell runs: the test, by its path from the folder that the reducer was started in, in the trial's folder
abbrev pub script : List ℕ
script = codes "case \"$1\" in /*) t=$1;; *) t=$(pwd)/$1;; esac; cd \"$2\" || exit 126; exec \"$t\""

-- the words of the shell: its script, its own name, the test and the folder
abbrev pub shell_words : List ℕ → List ℕ → List (List ℕ)
shell_words test folder = codes "-c" ∷ (script ∷ (codes "sh" ∷ (test ∷ (folder ∷ []))))

-- what an exit status answers
abbrev pub status_answer : ℕ → Answer
status_answer status = if status == 0 then answer.Yes else if status == 126 || status == 127 then answer.Failed else answer.No

-- what the end of a test answers; one that a signal ended has no exit status
abbrev pub end_answer : Option ℤ → Answer
end_answer (Some (pos status)) = status_answer status
end_answer _ = answer.No

-- what a trial answers: by the test's end, or that the test could not be run
abbrev pub Answers : Result ExitStatus Error → Answer → Type 0
Answers (Ok status) given = given ≡ end_answer (exit_code status)
Answers (Err e) given = (error_kind e ≡ OutOfMemory → given ≡ answer.NoMemory) × (error_kind e ≢ OutOfMemory → given ≡ answer.Failed)

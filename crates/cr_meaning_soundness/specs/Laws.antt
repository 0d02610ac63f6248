-- What a reader expects of evaluation: it keeps well-typedness.
use Rattle.std.specs.Prelude.{◌≡◌, ℕ, ◌^◌, ◌<◌, Bool, Option, Some, Ok, List, []}
use Rattle.cr_memory.specs.Memory.{Memory}
use Rattle.cr_memory.specs.Continues.{Continues}
use Rattle.cr_meaning.specs.Language.{Reply, gave, Runs}
use Rattle.cr_meaning.specs.World.{Program, World, Answer, Halt, enter_all, automatic, marked, closed}
use Rattle.cr_meaning.specs.Meaning.{body, reach, operands, root_of, start_of, run_of}
use Rattle.cr_meaning.specs.declared.run.Limits.{Limits}
use Rattle.cr_meaning.specs.declared.run.Run.{Run}
use Rattle.cr_meaning.specs.declared.value.Value.{Value}
use Rattle.cr_meaning_soundness.specs.Sorts.{Sort, Fits, IsWellFormed, Keeps}
use Rattle.cr_meaning_soundness.specs.Rules.{AreTyped}
use Rattle.cr_meaning_soundness.specs.Programs.{IsWellTyped, IsStatus}
use Rattle.cr_meaning_soundness.specs.Ends.{IsComplete}
use Rattle.cr_meaning_soundness.specs.Blocks.{Stands, IsLeft}

-- a node of any kind but the whole program, in a world that is well formed
abbrev pub EvaluationKeepsSorts : Type 0
EvaluationKeepsSorts = (p : Program) (sorts : ℕ → Option Sort) → AreTyped p sorts → (node : ℕ) (own : Sort) → sorts node ≡ Some own
    → (old new : World) (answer : Answer) → IsWellFormed p old → Runs (body p) (body p (reach node)) old (gave answer new) → Keeps p old new own answer

-- a whole program that is well typed: where its run comes to an answer this is a status
abbrev pub ProgramsGiveStatuses : Type 0
ProgramsGiveStatuses = (p : Program) (sorts : ℕ → Option Sort) → IsWellTyped p sorts → p.limits.cells < 2 ^ 63 → (answer : Answer) (new : World)
    → Runs (body p) (body p (operands (root_of p) [])) (start_of p.limits) (gave answer new) → IsStatus answer

-- a whole program that is well typed and complete: whatever its run comes to is an outcome, so it is the program's meaning
abbrev pub ProgramsHaveOutcomes : Type 0
ProgramsHaveOutcomes = (p : Program) (sorts : ℕ → Option Sort) (sees : ℕ → ℕ → Bool) (typed : IsWellTyped p sorts) → IsComplete p sorts sees typed
    → p.limits.cells < 2 ^ 63 → (reply : Reply Answer World Halt) → Runs (body p) (body p (operands (root_of p) [])) (start_of p.limits) reply
    → (outcome : Run) × (run_of p.limits reply ≡ Some outcome)

-- what fitted before fits later
abbrev pub OlderValuesFit : Type 0
OlderValuesFit = (old new : Memory) (sort : Sort) (value : Value) → Continues old new → Fits old sort value → Fits new sort value

-- ---- worlds

-- nothing is there at first
abbrev pub StartIsWellFormed : Type 0
StartIsWellFormed = (p : Program) (limits : Limits) → limits.cells < 2 ^ 63 → IsWellFormed p (start_of limits)

-- a block begins, and its objects are entered
abbrev pub BlocksAreEntered : Type 0
BlocksAreEntered = (p : Program) (world new : World) (nodes : List ℕ) → IsWellFormed p world → enter_all (automatic p) (marked world) nodes ≡ Ok new → Stands p world new

-- it ends, on whatever way, and what was entered since ends with it
abbrev pub BlocksAreLeft : Type 0
BlocksAreLeft = (p : Program) (base world : World) → IsWellFormed p base → Stands p base world → IsLeft p base (closed world)

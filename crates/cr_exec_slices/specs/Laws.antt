-- What a reader expects of the rest of a run.
use Rattle.std.specs.Prelude.{◌≡◌, ℕ, List, []}
use Rattle.cr_meaning.specs.Language.{Runs}
use Rattle.cr_meaning.specs.World.{Program, World}
use Rattle.cr_meaning.specs.Meaning.{operands}
use Rattle.cr_meaning_seen.specs.Marks.{Mark, noted_body}
use Rattle.cr_exec_slices.specs.Turns.{State, End, first_state, RestOf}

-- a state has one rest at most
abbrev pub OneRest : Type 0
OneRest = (p : Program) (state : State) (r other : End) → RestOf p state r → RestOf p state other → r ≡ other

-- where nothing waits the rest is the run, and the run is the rest
abbrev pub RestIsRun : Type 0
RestIsRun = (p : Program) (node : ℕ) (world : World × List Mark) (r : End) → RestOf p (first_state node world) r → Runs (noted_body p) (noted_body p (operands node [])) world r

abbrev pub RunIsRest : Type 0
RunIsRest = (p : Program) (node : ℕ) (world : World × List Mark) (r : End) → Runs (noted_body p) (noted_body p (operands node [])) world r → RestOf p (first_state node world) r

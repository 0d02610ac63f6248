-- What a reader expects of runs that are seen.
use Rattle.std.specs.Prelude.{◌≡◌, List}
use Rattle.cr_meaning.specs.Language.{Reply, Runs}
use Rattle.cr_meaning.specs.World.{Program, World, Answer, Halt}
use Rattle.cr_meaning.specs.Meaning.{Goal, Meaning, body}
use Rattle.cr_meaning_seen.specs.Seen.{Forest, Sees}
use Rattle.cr_meaning_seen.specs.Marks.{Mark, noted_body, NotedReply}

-- what is seen is a run
abbrev pub SightsAreRuns : Type 0
SightsAreRuns = (p : Program) (program : Meaning) (s : World) (r : Reply Answer World Halt) (forest : Forest) → Sees p program s r forest → Runs (body p) program s r

-- and a run can be seen
abbrev pub RunsAreSeen : Type 0
RunsAreSeen = (p : Program) (program : Meaning) (s : World) (r : Reply Answer World Halt) → Runs (body p) program s r → (forest : Forest) × Sees p program s r forest

-- in one way
abbrev pub SightsAreOne : Type 0
SightsAreOne = (p : Program) (program : Meaning) (s : World) (r other : Reply Answer World Halt) (forest found : Forest)
    → Sees p program s r forest → Sees p program s other found → (r ≡ other) × (forest ≡ found)

-- a run with notes is a seen run, and has noted its marks
abbrev pub NotesAreMarks : Type 0
NotesAreMarks = (p : Program) (g : Goal) (s : World × List Mark) (r : Reply Answer (World × List Mark) (Halt × List Mark)) → Runs (noted_body p) (noted_body p g) s r → NotedReply p (body p g) g s r

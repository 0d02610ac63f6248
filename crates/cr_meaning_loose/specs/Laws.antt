-- What a reader expects of the first loose evaluation.
use Rattle.std.specs.Prelude.{◌≡◌, ℕ, Some, List}
use Rattle.cr_meaning.specs.Language.{gave, ended}
use Rattle.cr_meaning.specs.World.{Program, World, Answer, Halt}
use Rattle.cr_meaning.specs.Meaning.{Goal, Meaning, operands}
use Rattle.cr_meaning_seen.specs.Seen.{Forest, Sees}
use Rattle.cr_meaning_seen.specs.Marks.{marks_around, marks_until}
use Rattle.cr_meaning_orders.specs.Fixed.{IsFixed}
use Rattle.cr_meaning_loose.specs.Lists.{Lists}
use Rattle.cr_meaning_loose.specs.Loose.{Judged}
use Rattle.cr_meaning_loose.specs.Levels.{levels_of, closed}

-- where an evaluation or a list in a program's run is loose, not all is fixed
abbrev pub LooseIsNotFixed : Type 0
LooseIsNotFixed = (p : Program) (lists : Lists) (loose : ℕ) (forest : Forest) → Judged p lists forest (Some loose) → IsFixed p forest → ⊥

-- and one node at most is the first
abbrev pub OneIsFirst : Type 0
OneIsFirst = (p : Program) (lists : Lists) (one other : ℕ) (forest : Forest) → Judged p lists forest (Some one) → Judged p lists forest (Some other) → one ≡ other

-- by its marks what is seen of a run is known, whether it came to an answer or was cut off
abbrev pub MarksTellForests : Type 0
MarksTellForests = (p : Program) (program : Meaning) (s t : World) (halt : Halt) (root number : ℕ) (answer : Answer) (done : List Answer) (forest : Forest)
    → (Sees p program s (gave answer t) forest → closed (levels_of root (marks_around (operands number done) forest answer)) ≡ forest)
    × (Sees p program s (ended halt) forest → closed (levels_of root (marks_until (operands number done) forest)) ≡ forest)

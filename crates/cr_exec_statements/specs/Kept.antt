-- Answers as they are kept, and what work on them comes to.
use Rattle.std.specs.Prelude.{pos, Result, Ok, Err, List, map}
use Rattle.std.specs.List.{AllZip}
use Rattle.cr_ints.specs.declared.kind.IntKind.TheVariants.{Int as IntegerKind}
use Rattle.cr_meaning.specs.World.{World, Answer}
use Rattle.cr_meaning.specs.Nodes.{Act}
use Rattle.cr_meaning.specs.declared.value.Value.{Value}
use Rattle.cr_meaning.specs.declared.value.Value.TheVariants.{Nothing, Number}
use Rattle.cr_exec_slices.specs.Shown.{Worked, Joined}
use Rattle.cr_exec_slices.specs.declared.nodes.Halted.{Halted}
use Rattle.cr_exec_turns.specs.Held.{shows}
pub use Rattle.cr_exec_turns.specs.Held.{value_in, values_in}
use Rattle.cr_exec_turns.specs.declared.held.Held.{Held}
use Rattle.cr_exec_turns.specs.declared.held.Held.TheVariants as held

-- the next statement follows on work that gives no answer
abbrev pub passing : Result (Unit {0}) Halted → Result Held Halted
passing (Ok done) = Ok held.Next
passing (Err halted) = Err halted

-- the answer of a loop, of a `switch` and of the whole program, by the last one of its parts
abbrev pub loop_left : Held → Held
loop_left held.Broke = held.Next
loop_left held.Continued = held.Next
loop_left other = other

abbrev pub switch_left : Held → Held
switch_left held.Broke = held.Next
switch_left other = other

abbrev pub program_left : Held → Held
program_left (held.Returned value) = held.Returned value
program_left other = held.Returned (Number IntegerKind (pos 0))

abbrev pub with_answer : (Held → Held) → Result Held Halted → Result Held Halted
with_answer f (Ok answer) = Ok (f answer)
with_answer f (Err halted) = Err halted

-- what work before a part does, and what a node's own work gives, on any answers that are kept so
abbrev pub Does : (List Answer → Act) → List Held → Result (Unit {0}) Halted → World → Type 0
Does act done result world = (answers : List Answer) → AllZip shows done answers → Worked (act answers) result world

abbrev pub Gives : (List Answer → Act) → List Held → Result Held Halted → World → Type 0
Gives act done result world = (answers : List Answer) → AllZip shows done answers → Joined shows (act answers) result world

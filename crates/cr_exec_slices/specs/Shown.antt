-- What the machine's answers say of the meaning's. An answer is kept as something that shows it: its value, and its events as sets.
use Rattle.std.specs.Prelude.{◌≡◌, ℕ, ◌+◌, ◌≤◌, Option, Some, None, Result, Ok, Err, List, [], ◌∷◌, ◌++◌, take}
use Rattle.std.specs.List.{AllZip}
use Rattle.cr_memory.specs.declared.value.Trap.TheVariants as trap
use Rattle.cr_meaning.specs.Language.{went, halts, gave, ended, Runs}
use Rattle.cr_meaning.specs.World.{Program, World, Answer, next, Halt, stopped, exited}
use Rattle.cr_meaning.specs.Turns.{Way, Operand, Enter, Resume, Ready, absent, from_item}
use Rattle.cr_meaning.specs.Nodes.{Act}
use Rattle.cr_meaning.specs.Meaning.{operands}
use Rattle.cr_exec_stack.specs.Waiting.{Pending, Waiting}
use Rattle.cr_exec_slices.specs.Turns.{Place, reaching, turning, State, End, RestOf, Leads}
use Rattle.cr_meaning_seen.specs.Marks.{Mark, noted_body}
use Rattle.cr_exec_slices.specs.declared.nodes.Halted.{Halted}
use Rattle.cr_exec_slices.specs.declared.nodes.Halted.TheVariants.{Undefined, Left, Exited, NoMemory}
use Rattle.cr_exec_slices.specs.declared.nodes.Fresh.{Fresh}
use Rattle.cr_exec_slices.specs.declared.nodes.Fresh.TheVariants.{Nothing, Absent, Before}
use Rattle.cr_exec_slices.specs.declared.nodes.Way.{Way as KeptWay}
use Rattle.cr_exec_slices.specs.declared.nodes.Way.TheVariants as kept
use Rattle.cr_exec_slices.specs.declared.machine.Point.{Point}
use Rattle.cr_exec_slices.specs.declared.machine.Point.TheVariants.{Reach, Turn}
use Rattle.cr_exec_slices.specs.declared.machine.Turned.{Turned}
use Rattle.cr_exec_slices.specs.declared.machine.Turned.TheVariants.{Goes, Came}
use Rattle.cr_exec_slices.specs.declared.machine.Outcome.{Outcome}
use Rattle.cr_exec_slices.specs.declared.machine.Outcome.TheVariants as outcome

-- ---- ways

abbrev pub fresh_of : Fresh → List Answer
fresh_of Nothing = []
fresh_of Absent = absent ∷ []
fresh_of (Before item) = from_item item

-- a way that can't be told stands for none, and nothing is said of it
abbrev pub way_of : List Answer → KeptWay → Way
way_of done (kept.Operand node) = Operand node
way_of done (kept.Enter node) = Enter node
way_of done (kept.Resume count fresh) = Resume (take count done ++ fresh_of fresh)
way_of done kept.Ready = Ready
way_of done kept.Unknown = Ready

-- ---- work

-- the end of a run, said as one that came in this world. Nothing is said of want of memory
abbrev pub Halting : (Halt → Type 0) → Halted → World → Type 0
Halting P (Undefined number node) world = P (stopped (trap.Undefined number) node)
Halting P (Left number node) world = P (stopped (trap.Left number) node)
Halting P (Exited status) world = P (exited status world)
Halting P NoMemory world = Unit {0}

-- work comes to this result and this world
abbrev pub Works : Act → Result (Unit {0}) Halted → World → Type 0
Works act (Ok done) world = act ≡ went next world
Works act (Err halted) world = Halting (λ halt. act ≡ halts halt) halted world

pub record Worked (act : Act) (result : Result (Unit {0}) Halted) (world : World) : Type 0 where
  pub works : Works act result world

-- what is kept shows an answer of which this holds
pub record Answering {T : Type 0} (shows : T → Answer → Type 0) (held : T) (P : Answer → Type 0) : Type 0 where
  pub answer : Answer
  pub shown : shows held answer
  pub holds : P answer

-- the only one of these answers is so kept
pub record Alone {T : Type 0} (shows : T → Answer → Type 0) (answers : List T) (P : Answer → Type 0) : Type 0 where
  pub held : T
  pub only : answers ≡ held ∷ []
  pub answering : Answering shows held P

-- work gives this answer and this world
abbrev pub Joins : {T : Type 0} → (T → Answer → Type 0) → Act → Result T Halted → World → Type 0
Joins shows act (Ok held) world = Answering shows held (λ answer. act ≡ went answer world)
Joins shows act (Err halted) world = Halting (λ halt. act ≡ halts halt) halted world

pub record Joined {T : Type 0} (shows : T → Answer → Type 0) (act : Act) (result : Result T Halted) (world : World) : Type 0 where
  pub joins : Joins shows act result world

-- work leaves this answer, as the only one of the node at work
abbrev pub LeavesBy : {T : Type 0} → (T → Answer → Type 0) → Act → Result (Unit {0}) Halted → List T → World → Type 0
LeavesBy shows act (Ok done) answers world = Alone shows answers (λ answer. act ≡ went answer world)
LeavesBy shows act (Err halted) answers world = Halting (λ halt. act ≡ halts halt) halted world

pub record Leaves {T : Type 0} (shows : T → Answer → Type 0) (act : Act) (result : Result (Unit {0}) Halted) (answers : List T) (world : World) : Type 0 where
  pub leaves : LeavesBy shows act result answers world

-- where it isn't want of memory
abbrev pub Moved : Result (Unit {0}) Halted → Type 0 → Type 0
Moved (Err NoMemory) P = Unit {0}
Moved result P = P

-- steps that are left, before and after
pub record TakesAtMostOne (before after : ℕ) : Type 0 where
  pub kept : after ≤ before
  pub few : before ≤ after + 1

-- ---- the stack

pub record ShowsPending {T : Type 0} (shows : T → Answer → Type 0) (held : Pending T) (meant : Pending Answer) : Type 0 where
  pub node : held.node ≡ meant.node
  pub done : AllZip shows held.done meant.done

pub record ShowsWaiting {T : Type 0} (shows : T → Answer → Type 0) (held : Waiting T) (meant : Waiting Answer) : Type 0 where
  pub top : ShowsPending shows held.top meant.top
  pub below : AllZip (ShowsPending shows) held.below meant.below

-- ---- the machine

abbrev pub place_of : Point → Place
place_of (Reach node) = reaching node
place_of Turn = turning

-- a state to which a run from the start has come, as the machine keeps it
pub record Continues {T : Type 0} (shows : T → Answer → Type 0) (now : List Mark → Type 0) (p : Program) (start : State) (point : Point) (held : Waiting T) (world : World) : Type 0 where
  pub waiting : Waiting Answer
  pub marks : List Mark
  pub is_now : now marks
  pub shown : ShowsWaiting shows held waiting
  pub leads : Leads p start (record { place = place_of point; waiting = waiting; world = (world, marks) })

-- an end with marks that are so
pub record MarkedRest (now : List Mark → Type 0) (p : Program) (start : State) (end : List Mark → End) : Type 0 where
  pub marks : List Mark
  pub is_now : now marks
  pub rest : RestOf p start (end marks)

pub record MarkedRun (now : List Mark → Type 0) (p : Program) (node : ℕ) (start : World) (end : List Mark → End) : Type 0 where
  pub marks : List Mark
  pub is_now : now marks
  pub run : Runs (noted_body p) (noted_body p (operands node [])) (start, []) (end marks)

abbrev pub TurnsTo : {T : Type 0} → (T → Answer → Type 0) → (List Mark → Type 0) → Program → State → Turned → Waiting T → World → Type 0
TurnsTo shows now p start (Goes point) held world = Continues shows now p start point held world
TurnsTo shows now p start Came held world = Alone shows held.top.done (λ meant. MarkedRest now p start (λ marks. gave meant (world, marks)))

abbrev pub TurnsBy : {T : Type 0} → (T → Answer → Type 0) → (List Mark → Type 0) → Program → State → Result Turned Halted → Waiting T → World → Type 0
TurnsBy shows now p start (Ok turned) held world = TurnsTo shows now p start turned held world
TurnsBy shows now p start (Err halted) held world = Halting (λ halt. MarkedRest now p start (λ marks. ended (halt, marks))) halted world

-- from a state the machine comes to this result
pub record Turns {T : Type 0} (shows : T → Answer → Type 0) (now : List Mark → Type 0) (p : Program) (start : State) (result : Result Turned Halted) (held : Waiting T) (world : World) : Type 0 where
  pub turns : TurnsBy shows now p start result held world

-- a run that has come to the last node's answer
abbrev pub came : {T : Type 0} → Option T → Outcome T
came (Some answer) = outcome.Came answer
came None = outcome.Halted NoMemory

-- a run from a node, in which nothing waits, is the meaning's
abbrev pub ComesTo : {T : Type 0} → (T → Answer → Type 0) → (List Mark → Type 0) → Program → ℕ → World → Outcome T → World → Type 0
ComesTo shows now p node start (outcome.Came held) world =
    Answering shows held (λ answer. MarkedRun now p node start (λ marks. gave answer (world, marks)))
ComesTo shows now p node start (outcome.Halted halted) world =
    Halting (λ halt. MarkedRun now p node start (λ marks. ended (halt, marks))) halted world
ComesTo shows now p node start outcome.Stopped world = Unit {0}

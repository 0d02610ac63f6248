-- The arguments of a call, taken off the stack.
use Rattle.std.specs.Prelude.{◌≡◌, ℕ, suc, Bool, true, false, Result, Ok, Err, List, [], ◌∷◌, ◌++◌, map, length, reverse}
use Rattle.std.specs.List.{AllZip}
use Rattle.cr_footprint.specs.declared.foot.Foot.{Foot}
use Rattle.cr_memory.specs.declared.value.Trap.{Trap}
use Rattle.cr_memory.specs.declared.value.Trap.TheVariants.{Undefined, Left, NoMemory}
use Rattle.cr_meaning.specs.Events.{Event, Arguments, gathered, operands_clash}
use Rattle.cr_meaning.specs.World.{Answer}
use Rattle.cr_meaning.specs.Nodes.{events_of}
use Rattle.cr_meaning.specs.declared.value.Value.{Value}
use Rattle.cr_eval_join.specs.Feet.{Argues}
use Rattle.cr_eval_join.specs.Parts.{IsFootOf}
use Rattle.cr_eval_join.specs.declared.part.Part.{Part}
use Rattle.cr_exec_turns.specs.declared.held.Held.{Held}
use Rattle.cr_exec_turns.specs.Held.{shows}
use Rattle.cr_exec_calls.specs.Arguments.{values_in}
use Rattle.cr_exec_calls.specs.declared.taken.Taken.{Taken}

abbrev pub footed : Result Taken Trap → Result Foot Trap
footed (Ok taken) = Ok taken.foot
footed (Err trap) = Err trap

-- an argument's events before those of the later ones
pub record AddsArgument (given : Part) (later : Taken) (result : Result Taken Trap) : Type 0 where
  pub adds : (number : ℕ) (events : List Event) (rest : List (List Event)) → IsFootOf given.foot events → IsFootOf later.foot (gathered Arguments (suc number) rest)
      → Argues number events rest (footed result)

-- the same of an argument's answer
pub record AddsHeld (held : Held) (later : Foot) (result : Result Foot Trap) : Type 0 where
  pub adds : (number : ℕ) (answer : Answer) (rest : List (List Event)) → shows held answer → IsFootOf later (gathered Arguments (suc number) rest)
      → Argues number (events_of answer) rest result

-- arguments from a number on, of which no two conflict, and the footprint of their events
pub record AreTogether (number : ℕ) (done : List Held) (foot : Foot) : Type 0 where
  pub apart : (answers : List Answer) → AllZip shows done answers → operands_clash Arguments number (map events_of answers) ≡ false
  pub joined : (answers : List Answer) → AllZip shows done answers → IsFootOf foot (gathered Arguments number (map events_of answers))

-- two arguments conflict: U12
pub record Conflict (done : List Held) (number : ℕ) : Type 0 where
  pub case : (answers : List Answer) → AllZip shows done answers → number ≡ 12
  pub clash : (answers : List Answer) → AllZip shows done answers → operands_clash Arguments 0 (map events_of answers) ≡ true

-- all arguments, with their values in an order
abbrev pub TakenBy : (List Value → List Value) → List Held → Result Taken Trap → Type 0
TakenBy order done (Ok taken) = (order taken.values.items ≡ values_in done) × AreTogether 0 done taken.foot
TakenBy order done (Err (Undefined number)) = Conflict done number
TakenBy order done (Err (Left number)) = (answers : List Answer) → AllZip shows done answers → ⊥
TakenBy order done (Err NoMemory) = Unit {0}

abbrev pub Takes : List Held → Result Taken Trap → Type 0
Takes done result = TakenBy (λ values. values) done result

-- the last one first
abbrev pub TakesReversed : List Held → Result Taken Trap → Type 0
TakesReversed done result = TakenBy reverse done result

-- some of them, of which the others are left
pub record TakesSome (all left : List Held) (taken : Taken) : Type 0 where
  pub later : List Held
  pub whole : all ≡ left ++ later
  pub values : reverse taken.values.items ≡ values_in later
  pub together : AreTogether (length left) later taken.foot

-- the last ones, of which no two conflict, and the footprint of their events
pub record LastTogether (all left : List Held) (foot : Foot) : Type 0 where
  pub later : List Held
  pub whole : all ≡ left ++ later
  pub together : (number : ℕ) → AreTogether number later foot

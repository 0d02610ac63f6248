-- Conflicts between the arguments of a call: whether the meaning has one is just what the code says.
use Rattle.std.specs.Prelude.{◌≡◌, ℕ, suc, ◌<◌, Bool, ◌&&◌, List, map}
use Rattle.std.specs.List.{AllZip}
use Rattle.cr_footprint.specs.Cell.{Cell}
use Rattle.cr_footprint.specs.Foot.{Sets, accesses}
use Rattle.cr_footprint.specs.declared.foot.Foot.{Foot}
use Rattle.cr_meaning.specs.Events.{Event, Step, Arguments, clash, below, gathered, operands_clash}
use Rattle.cr_meaning.specs.World.{Answer}
use Rattle.cr_meaning.specs.Nodes.{events_of}
use Rattle.cr_eval_join.specs.Parts.{IsFootOf}
use Rattle.cr_exec_turns.specs.declared.held.Held.{Held}
use Rattle.cr_exec_turns.specs.Held.{shows}

-- a write or a touch of one is on a cell of an event of the other
abbrev pub hits : Sets → Sets → Cell → Bool
hits f g c = f.writes c && accesses g c

abbrev pub argument : ℕ → Step
argument number = record { order = Arguments; operand = number }

-- events of one argument and of a later one
pub record MeetsOne (foot : Foot) (other : Held) (result : Bool) : Type 0 where
  pub meets : (number from : ℕ) (events : List Event) (answer : Answer) → number < from → IsFootOf foot events → shows other answer
      → clash (below (argument number) events) (below (argument from) (events_of answer)) ≡ result

-- events of one argument and of those from a number on
pub record MeetsAny (foot : Foot) (later : List Held) (result : Bool) : Type 0 where
  pub meets : (number from : ℕ) (events : List Event) (answers : List Answer) → number < from → IsFootOf foot events → AllZip shows later answers
      → clash (below (argument number) events) (gathered Arguments from (map events_of answers)) ≡ result

pub record MeetsLater (held : Held) (later : List Held) (result : Bool) : Type 0 where
  pub meets : (number : ℕ) (answer : Answer) (answers : List Answer) → shows held answer → AllZip shows later answers
      → clash (below (argument number) (events_of answer)) (gathered Arguments (suc number) (map events_of answers)) ≡ result

-- events of any two arguments
pub record Clashes (done : List Held) (result : Bool) : Type 0 where
  pub clashes : (number : ℕ) (answers : List Answer) → AllZip shows done answers → operands_clash Arguments number (map events_of answers) ≡ result

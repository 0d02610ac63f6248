-- The end of a call.
use Rattle.std.specs.Prelude.{◌≡◌, ℕ, Bool, Option, Some, None, Result, Ok, Err, List, []}
use Rattle.cr_footprint.specs.declared.foot.Foot.{Foot}
use Rattle.cr_memory.specs.declared.value.Trap.{Trap}
use Rattle.cr_meaning.specs.Language.{went, halts}
use Rattle.cr_meaning.specs.Events.{Event}
use Rattle.cr_meaning.specs.World.{Program, World, Answer, part}
use Rattle.cr_meaning.specs.Nodes.{Act, unless_clash, library, result_of, events_of}
use Rattle.cr_meaning.specs.declared.op.Callee.{Callee}
use Rattle.cr_meaning.specs.declared.op.Work.TheVariants.{Call}
use Rattle.cr_meaning.specs.declared.value.Value.{Value}
use Rattle.cr_eval_join.specs.declared.part.Part.{Part}
use Rattle.cr_exec_slices.specs.Shown.{Halting}
use Rattle.cr_exec_slices.specs.declared.nodes.Halted.{Halted}
use Rattle.cr_exec_slices.specs.declared.nodes.Halted.TheVariants as halted
use Rattle.cr_exec_turns.specs.declared.held.Held.{Held}
use Rattle.cr_exec_turns.specs.declared.held.Held.TheVariants as held
use Rattle.cr_exec_turns.specs.Held.{shows}
use Rattle.cr_exec_world.specs.Worlds.{halt_of}

-- ---- the library

abbrev pub with_output : World → List ℕ → World
with_output world output = record world { output = output }

-- work gives this value with these events, and this world
abbrev pub GivesBy : Act → List Event → Result Value Halted → World → Type 0
GivesBy act events (Ok value) world = act ≡ went (part value events) world
GivesBy act events (Err halted) world = Halting (λ halt. act ≡ halts halt) halted world

pub record Gives (act : Act) (events : List Event) (result : Result Value Halted) (world : World) : Type 0 where
  pub gives : GivesBy act events result world

abbrev pub end_of : ℕ → Result ℕ Trap → Halted
end_of node (Ok status) = halted.Exited status
end_of node (Err trap) = halt_of trap node

abbrev pub value_at : ℕ → Result Value Trap → Result Value Halted
value_at node (Ok value) = Ok value
value_at node (Err trap) = Err (halt_of trap node)

abbrev pub held_of : Foot → Result Value Halted → Result Held Halted
held_of foot (Ok value) = Ok (held.Part (record { value = value; foot = foot }))
held_of foot (Err halted) = Err halted

-- a call of the library once its arguments are evaluated
abbrev pub call_library : Program → ℕ → Callee → List Answer → World → Act
call_library p node callee done world = unless_clash node (Call callee) done (library p node (Call callee) callee done world)

-- ---- functions of the program

-- the value of a call by its body's answer, which has no events
pub record EndsBy (is_main : Bool) (last : Held) (value : Value) : Type 0 where
  pub value_is : (answer : Answer) → shows last answer → result_of is_main answer ≡ value
  pub events_are : (answer : Answer) → shows last answer → events_of answer ≡ []

abbrev pub EndsWith : Bool → Option Held → Option Value → Type 0
EndsWith is_main last None = Unit {0}
EndsWith is_main None (Some value) = ⊥
EndsWith is_main (Some last) (Some value) = EndsBy is_main last value

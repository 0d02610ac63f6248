-- The world of the meaning that the code's one shows.
use Rattle.std.specs.Prelude.{ℕ, Bool, true, false}
use Rattle.cr_memory.specs.declared.value.Trap.{Trap}
use Rattle.cr_memory.specs.declared.value.Trap.TheVariants.{Undefined, Left, NoMemory}
use Rattle.cr_memory.specs.Memory.{Object}
use Rattle.cr_meaning.specs.World.{Program, World as SpecWorld, automatic, static}
use Rattle.cr_exec_slices.specs.declared.nodes.Halted.{Halted}
use Rattle.cr_exec_slices.specs.declared.nodes.Halted.TheVariants as halted
use Rattle.cr_exec_world.specs.declared.world.World.{World}

abbrev pub world_of : World → SpecWorld
world_of world = record {
  memory = world.store;
  output = world.output.items;
  steps = world.steps;
  depth = world.depth;
  bindings = world.names;
}

-- a case at a node, as the end of a run
abbrev pub halt_of : Trap → ℕ → Halted
halt_of (Undefined number) node = halted.Undefined number node
halt_of (Left number) node = halted.Left number node
halt_of NoMemory node = halted.NoMemory

-- an object of static duration or a literal, or else one of automatic duration
abbrev pub made_by : Bool → Program → ℕ → Object
made_by true p = static p
made_by false p = automatic p

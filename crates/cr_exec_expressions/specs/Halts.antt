-- A node's answer on the stack, or a case at the node as the end of a run.
use Rattle.std.specs.Prelude.{◌≡◌, ℕ, Option, Some, None, Result, Ok, Err, List, [], ◌∷◌}
use Rattle.cr_memory.specs.declared.value.Trap.{Trap}
use Rattle.cr_meaning.specs.declared.op.Work.{Work}
use Rattle.cr_meaning.specs.declared.op.Work.TheVariants as work
use Rattle.cr_meaning.specs.Nodes.{Act}
use Rattle.cr_meaning.specs.World.{World}
use Rattle.cr_eval_join.specs.declared.part.Part.{Part}
use Rattle.cr_eval_join.specs.Joins.{Joins}
use Rattle.cr_exec_slices.specs.declared.nodes.Halted.{Halted}
use Rattle.cr_exec_turns.specs.declared.held.Held.{Held}
use Rattle.cr_exec_turns.specs.declared.held.Held.TheVariants as held
use Rattle.cr_exec_world.specs.Worlds.{halt_of}

abbrev pub halting : ℕ → Result (Unit {0}) Trap → Result (Unit {0}) Halted
halting node (Ok done) = Ok done
halting node (Err trap) = Err (halt_of trap node)

-- the meaning gives just this, the only one of these answers or a case at the node
abbrev pub PlacesBy : Act → World → ℕ → Result (Unit {0}) Trap → List Held → Type 0
PlacesBy act world node (Ok done) answers = (given : Part) × (answers ≡ held.Part given ∷ []) × Joins act world node (Ok given)
PlacesBy act world node (Err trap) answers = Joins act world node (Err trap)

pub record Places (act : Act) (world : World) (node : ℕ) (result : Result (Unit {0}) Trap) (answers : List Held) : Type 0 where
  pub places : PlacesBy act world node result answers

-- the node whose object an identifier or a literal stands for
abbrev pub object_of : Work → Option ℕ
object_of (work.Object declared of) = Some declared
object_of other = None

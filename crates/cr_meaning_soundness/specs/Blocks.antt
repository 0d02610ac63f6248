-- Blocks and calls: the objects that they enter, and that end with them (C11 6.2.4p6).
use Rattle.std.specs.Prelude.{◌≡◌, ℕ, ◌≤◌, List, ◌∷◌, length}
use Rattle.cr_memory.specs.Continues.{Continues}
use Rattle.cr_meaning.specs.World.{Program, World, Binding, bound, mark}
use Rattle.cr_meaning_soundness.specs.Sorts.{IsWellFormed}

-- bindings of objects from a number on, behind a mark on those of before
pub data IsAbove (count : ℕ) (base : List Binding) : List Binding → Type 0 where
  opened : IsAbove count base (mark ∷ base)
  more : (node object : ℕ) (rest : List Binding) → count ≤ object → IsAbove count base rest → IsAbove count base (bound node object ∷ rest)

-- a world that is well formed, within a block or a call that began in another: the objects of that one continue, and all that were
-- entered since are new
pub record Stands (p : Program) (base world : World) : Type 0 where
  pub well : IsWellFormed p world
  pub continues : Continues base.memory world.memory
  pub above : IsAbove (length base.memory.objects) base.bindings world.bindings

-- the world after such a block is well formed, all objects of before continue, and the nodes have those that they had
pub record IsLeft (p : Program) (base new : World) : Type 0 where
  pub well_formed : IsWellFormed p new
  pub continues : Continues base.memory new.memory
  pub bindings : new.bindings ≡ base.bindings

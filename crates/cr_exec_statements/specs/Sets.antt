-- Declarations of objects, and the parts that initialisers set, as the code keeps them.
use Rattle.std.specs.Prelude.{◌≡◌, ◌≤◌, ◌<◌, ℕ, Option, Some, None, Result, Ok, Err, List, ◌++◌, length, slice_index_or}
use Rattle.std.specs.Global.{Vec}
use Rattle.cr_memory.specs.declared.value.Cell.{Cell}
use Rattle.cr_memory.specs.declared.value.Cell.TheVariants.{Unset}
use Rattle.cr_memory.specs.declared.value.Trap.{Trap}
use Rattle.cr_memory.specs.declared.value.Trap.TheVariants as trap
use Rattle.cr_meaning.specs.Language.{went}
use Rattle.cr_meaning.specs.World.{Program, World, next, unset_again}
use Rattle.cr_meaning.specs.Nodes.{Act, on_object, initials, initialised, set_parts}
use Rattle.cr_meaning.specs.declared.op.Line.{Line}
use Rattle.cr_meaning.specs.declared.value.Value.{Value}
use Rattle.cr_exec_slices.specs.declared.nodes.Halted.{Halted}
use Rattle.cr_exec_slices.specs.declared.nodes.Halted.TheVariants.{Undefined, Left, Exited, NoMemory}

-- ---- declarations (6.7, 6.7.9)

-- without an initialiser
abbrev pub unset_by : ℕ → ℕ → World → Act
unset_by node declared world = on_object node world declared (λ object. went next (record world { memory = unset_again world.memory object }))

-- with these initialisers of these values, and the same where none lacks a value and this is the object
abbrev pub set_by : Program → ℕ → ℕ → List Line → List Value → World → Act
set_by p node declared lines given world =
    on_object node world declared (λ object. initialised p declared world object (initials p world.memory lines given))

abbrev pub parts_set : Program → ℕ → ℕ → List Line → List Value → World → Act
parts_set p declared object lines given world = initialised p declared world object (set_parts p world.memory lines given)

-- ---- parts

abbrev pub Sets : Type 0
Sets = List (ℕ × List Cell)

-- the meaning gives just these, or this case at this node. Nothing is said of want of memory
abbrev pub SaysParts : Result Sets (Trap × ℕ) → Result (Vec (ℕ × List Cell)) Halted → Type 0
SaysParts want (Ok sets) = want ≡ Ok sets.items
SaysParts want (Err (Undefined number node)) = want ≡ Err (trap.Undefined number, node)
SaysParts want (Err (Left number node)) = want ≡ Err (trap.Left number, node)
SaysParts want (Err (Exited status)) = ⊥
SaysParts want (Err NoMemory) = Unit {0}

pub record GivesParts (want : Result Sets (Trap × ℕ)) (result : Result (Vec (ℕ × List Cell)) Halted) : Type 0 where
  pub says : SaysParts want result

-- some parts before others
abbrev pub after_sets : Sets → Result Sets (Trap × ℕ) → Result Sets (Trap × ℕ)
after_sets sets (Ok others) = Ok (sets ++ others)
after_sets sets (Err case) = Err case

-- the cell of this number, if there is one
abbrev pub IsCharAt : List Cell → ℕ → Option Cell → Type 0
IsCharAt cells place None = length cells ≤ place
IsCharAt cells place (Some cell) = (place < length cells) × (slice_index_or cells place Unset ≡ cell)

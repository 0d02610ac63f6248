-- What an answer of the code says of the meaning's.
use Rattle.std.specs.Prelude.{◌≡◌, ℕ, Option, Result, Ok, Err, List}
use Rattle.cr_memory.specs.declared.value.Trap.{Trap}
use Rattle.cr_memory.specs.declared.value.Trap.TheVariants.{Undefined, Left, NoMemory}
use Rattle.cr_memory.specs.Memory.{Memory}
use Rattle.cr_meaning.specs.World.{Binding, object_for}
use Rattle.cr_meaning.specs.Work.{Did as OwnWork}
use Rattle.cr_meaning.specs.declared.op.Work.{Work}
use Rattle.cr_meaning.specs.declared.op.Work.TheVariants as work
use Rattle.cr_eval.specs.declared.did.Did.{Did}
use Rattle.cr_eval.specs.Deeds.{events_of}

-- the meaning gives just this, value or case. Nothing is said of want of memory, which is also what comes of operands that no
-- program of the subset has
abbrev pub Says : {A : Type 0} → Result A Trap → Result A Trap → Type 0
Says want (Ok a) = want ≡ Ok a
Says want (Err NoMemory) = Unit {0}
Says want (Err (Undefined number)) = want ≡ Err (Undefined number)
Says want (Err (Left number)) = want ≡ Err (Left number)

pub record Answers {A : Type 0} (want got : Result A Trap) : Type 0 where
  pub says : Says want got

-- own work that leaves this memory
abbrev pub meant : Memory → Result Did Trap → Result OwnWork Trap
meant memory (Ok did) = Ok (record { value = did.value; memory = memory; events = events_of did.deeds })
meant memory (Err trap) = Err trap

-- a write that leaves this memory
abbrev pub leaving : Memory → Result (Unit {0}) Trap → Result Memory Trap
leaving memory (Ok done) = Ok memory
leaving memory (Err trap) = Err trap

-- the object that was entered last for the node of an identifier or a literal
abbrev pub IsFound : Work → List Binding → Option ℕ → Type 0
IsFound (work.Object node of) bindings object = object_for bindings node ≡ object
IsFound other bindings object = Unit {0}

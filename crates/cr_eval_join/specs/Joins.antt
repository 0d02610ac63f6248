-- What the answer for a node says of the meaning's.
use Rattle.std.specs.Prelude.{◌≡◌, ℕ, Bool, true, false, Result, Ok, Err, List}
use Rattle.cr_footprint.specs.declared.foot.Foot.{Foot}
use Rattle.cr_memory.specs.declared.value.Trap.{Trap}
use Rattle.cr_memory.specs.declared.value.Trap.TheVariants.{Undefined, Left, NoMemory}
use Rattle.cr_meaning.specs.Language.{went}
use Rattle.cr_meaning.specs.Events.{Event}
use Rattle.cr_meaning.specs.World.{World, part}
use Rattle.cr_meaning.specs.Nodes.{Act, stops}
use Rattle.cr_meaning.specs.declared.op.Work.{Work}
use Rattle.cr_meaning.specs.declared.op.Work.TheVariants as work
use Rattle.cr_eval.specs.Deeds.{events_of}
use Rattle.cr_eval.specs.declared.did.Did.{Did}
use Rattle.cr_eval_join.specs.declared.part.Part.{Part}
use Rattle.cr_eval_join.specs.Parts.{IsFootOf}
use Rattle.cr_eval_join.specs.Feet.{Adds}

-- the node answers the part's value, with events of its footprint, and leaves this world
pub record Gives (act : Act) (world : World) (given : Part) : Type 0 where
  pub events : List Event
  pub went_on : act ≡ went (part given.value events) world
  pub footprint : IsFootOf given.foot events

-- the meaning gives just this, a part or a case at the node. Nothing is said of want of memory, which is also what comes of operands
-- that no program of the subset has
abbrev pub Says : Act → World → ℕ → Result Part Trap → Type 0
Says act world node (Ok given) = Gives act world given
Says act world node (Err (Undefined number)) = act ≡ stops (Undefined number) node
Says act world node (Err (Left number)) = act ≡ stops (Left number) node
Says act world node (Err NoMemory) = Unit {0}

pub record Joins (act : Act) (world : World) (node : ℕ) (result : Result Part Trap) : Type 0 where
  pub says : Says act world node result

-- ---- a node's own work, once it is done

-- the work's value with a footprint to which nothing is added
abbrev pub parted : Foot → Result Did Trap → Result Part Trap
parted foot (Ok did) = Ok (record { value = did.value; foot = foot })
parted foot (Err trap) = Err trap

-- the same, where the work's own events stand beside those of the operands
abbrev pub FinishesBy : Did → List Event → Result Part Trap → Type 0
FinishesBy did all (Ok given) = (given.value ≡ did.value) × Adds (events_of did.deeds) all (Ok given.foot)
FinishesBy did all (Err trap) = Adds (events_of did.deeds) all (Err trap)

abbrev pub Finishes : List Event → Result Did Trap → Result Part Trap → Type 0
Finishes all (Ok did) result = FinishesBy did all result
Finishes all (Err trap) result = result ≡ Err trap

-- ---- the order of operands

-- of two operands the first is sequenced before the second (6.5.13p4, 6.5.14p4, 6.5.15p4, 6.5.17p2)
abbrev pub is_sequence : Work → Bool
is_sequence work.Comma = true
is_sequence (work.Conditional form) = true
is_sequence work.LogicalAnd = true
is_sequence work.LogicalOr = true
is_sequence other = false

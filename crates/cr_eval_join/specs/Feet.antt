-- Footprints that are joined: those of two operands, and a node's own events beside its operands' ones.
use Rattle.std.specs.Prelude.{◌≡◌, ℕ, suc, true, false, Result, Ok, Err, List, ◌∷◌, ◌++◌}
use Rattle.std.specs.List.{list_any}
use Rattle.cr_footprint.specs.Cell.{Cell}
use Rattle.cr_footprint.specs.Foot.{Sets, sets, union_of, meets}
use Rattle.cr_footprint.specs.declared.foot.Foot.{Foot}
use Rattle.cr_footprint.specs.declared.end.FootEnd.{FootEnd}
use Rattle.cr_footprint.specs.declared.end.FootEnd.TheVariants as ending
use Rattle.cr_memory.specs.declared.value.Trap.{Trap}
use Rattle.cr_memory.specs.declared.value.Trap.TheVariants.{Undefined, Left, NoMemory}
use Rattle.cr_meaning.specs.Events.{Event, Deed, Arguments, conflicts, clash, below, own, gathered}
use Rattle.cr_meaning.specs.Merged.{sets_of}
use Rattle.cr_eval_join.specs.Parts.{IsFootOf}

-- U12, an unsequenced side effect
abbrev pub trap_of : FootEnd → Trap
trap_of (ending.Conflict object cell) = Undefined 12
trap_of ending.NoMemory = NoMemory

abbrev pub trapped : Result Foot FootEnd → Result Foot Trap
trapped (Ok foot) = Ok foot
trapped (Err end) = Err (trap_of end)

-- what stands where it was put, where no case is met
abbrev pub placed : {A : Type 0} → A → Result (Unit {0}) Trap → Result A Trap
placed there (Ok done) = Ok there
placed there (Err trap) = Err trap

-- two unsequenced footprints as one, where they meet on no cell; U12 where they do
abbrev pub Unites : Sets → Sets → Result Foot Trap → Type 0
Unites f g (Ok foot) = (sets foot ≡ union_of f g) × ((c : Cell) → meets f g c ≡ false)
Unites f g (Err (Undefined number)) = (number ≡ 12) × ((c : Cell) × (meets f g c ≡ true))
Unites f g (Err (Left number)) = ⊥
Unites f g (Err NoMemory) = Unit {0}

-- an own event of a node conflicts with these events exactly where a write of theirs on its cell is open
pub record AreBelow (all : List Event) : Type 0 where
  pub opens : (deed : Deed) (c : Cell) → list_any (conflicts (own deed c)) all ≡ (sets_of all).opens c

-- own events beside these, where no two of them conflict; U12 where two do
abbrev pub Adds : List Event → List Event → Result Foot Trap → Type 0
Adds events all (Ok foot) = (clash events all ≡ false) × IsFootOf foot (events ++ all)
Adds events all (Err (Undefined number)) = (number ≡ 12) × (clash events all ≡ true)
Adds events all (Err (Left number)) = ⊥
Adds events all (Err NoMemory) = Unit {0}

-- an argument's events before those of the later ones (6.5.2.2p10), where none of its events conflicts with one of theirs; U12 where
-- one does
abbrev pub Argues : ℕ → List Event → List (List Event) → Result Foot Trap → Type 0
Argues number events rest (Ok foot) =
    (clash (below (record { order = Arguments; operand = number }) events) (gathered Arguments (suc number) rest) ≡ false)
    × IsFootOf foot (gathered Arguments number (events ∷ rest))
Argues number events rest (Err (Undefined k)) =
    (k ≡ 12) × (clash (below (record { order = Arguments; operand = number }) events) (gathered Arguments (suc number) rest) ≡ true)
Argues number events rest (Err (Left k)) = ⊥
Argues number events rest (Err NoMemory) = Unit {0}

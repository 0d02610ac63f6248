-- Programs whose order is fixed: where the order of operands is unspecified (C11 6.5p3), nothing that one of them does can be seen by another.
use Rattle.std.specs.Prelude.{◌≡◌, ◌≢◌, ℕ, ◌<◌, Bool, true, not, ◌&&◌, Option, Some, None, List, length, slice_get}
use Rattle.std.specs.List.{list_all}
use Rattle.cr_footprint.specs.Cell.{Cell as Place}
use Rattle.cr_meaning.specs.Events.{Event, is_side_effect}
use Rattle.cr_meaning.specs.Language.{Reply}
use Rattle.cr_meaning.specs.World.{Program, World, Answer, Halt}
use Rattle.cr_meaning.specs.Meaning.{start_of, run_of}
use Rattle.cr_meaning.specs.declared.run.Run.TheVariants as run
use Rattle.cr_meaning.specs.declared.op.Op.{Op}
use Rattle.cr_meaning_seen.specs.Seen.{Forest, bare, node, Occurs, piece, Sees}
use Rattle.cr_meaning_frames.specs.Frame.{ArePlain}
use Rattle.cr_meaning_orders.specs.AnyOrder.{is_free, whole_of}

-- no side effect (5.1.2.3p2) on a cell of a set
abbrev pub spares : (Place → Bool) → Event → Bool
spares cells event = not (is_side_effect event.deed && cells event.cell)

-- none in these evaluations, those of called functions' bodies included
abbrev pub Spares : (Place → Bool) → Forest → Type 0
Spares cells forest = (number : ℕ) (inner : Forest) (events : List Event) → Occurs number inner (Some events) forest → list_all (spares cells) events ≡ true

-- The operands of one evaluation, of which there are so many: one at most, the loud one, has an assignment, `++`, `--`, a touch of a volatile
-- object or a call in it; the others read only cells that the loud one neither writes nor touches, in called functions' bodies neither; and no
-- operand was cut off by `exit` or `abort` where there are two.
pub record IsFixedNode (p : Program) (count : ℕ) (forest : Forest) : Type 0 where
  pub loud : ℕ
  pub kept : Place → Bool
  pub quiet : (place : ℕ) (operand : Forest) → place < count → place ≢ loud → piece forest place ≡ Some operand → ArePlain p kept operand
  pub spared : (operand : Forest) → loud < count → piece forest loud ≡ Some operand → Spares kept operand
  pub whole : (place number : ℕ) (inner : Forest) → place < count → piece forest place ≡ Some (node number inner None bare) → count < 2

-- each evaluation of a node whose operands have no order is such
abbrev pub IsFixed : Program → Forest → Type 0
IsFixed p forest = (number : ℕ) (inner : Forest) (end : Option (List Event)) → Occurs number inner end forest
    → (op : Op) → slice_get p.ops number ≡ Some op → is_free op.work ≡ true → IsFixedNode p (length op.parts) inner

-- The program's run from left to right ends (5.1.2.2.3), and each evaluation in it is such.
pub record IsOrderFixed (p : Program) : Type 0 where
  pub reply : Reply Answer World Halt
  pub forest : Forest
  pub status : ℕ
  pub output : List ℕ
  pub steps : ℕ
  pub seen : Sees p (whole_of p) (start_of p.limits) reply forest
  pub ends : run_of p.limits reply ≡ Some (run.Ended status output steps)
  pub fixed : IsFixed p forest

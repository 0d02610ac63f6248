-- Evaluations without a write, a touch and a call (C11 5.1.2.3p2): what they rest on.
use Rattle.std.specs.Prelude.{◌≡◌, ℕ, ◌+◌, Bool, true, not, ◌&&◌, Option, Some, List, length, slice_get, slice_index_or}
use Rattle.std.specs.List.{list_all}
use Rattle.cr_footprint.specs.Cell.{Cell as Place}
use Rattle.cr_memory.specs.declared.value.Cell.TheVariants.{Unset}
use Rattle.cr_memory.specs.Memory.{Object, Memory, live_object, count_of}
use Rattle.cr_meaning.specs.Events.{Event, is_side_effect}
use Rattle.cr_meaning.specs.Language.{gave}
use Rattle.cr_meaning.specs.Quiet.{is_quiet_work}
use Rattle.cr_meaning.specs.World.{Program, World, Binding, object_for, Answer}
use Rattle.cr_meaning.specs.Meaning.{Meaning}
use Rattle.cr_meaning.specs.declared.op.Op.{Op}
use Rattle.cr_meaning_seen.specs.Seen.{Forest, Occurs, Sees}

-- ---- evaluations without a side effect and a call, whose reads are on cells of a set

abbrev pub reads_in : (Place → Bool) → Event → Bool
reads_in cells event = not (is_side_effect event.deed) && cells event.cell

abbrev pub AreReadsIn : (Place → Bool) → List Event → Type 0
AreReadsIn cells events = list_all (reads_in cells) events ≡ true

abbrev pub IsPlainNode : Program → ℕ → Type 0
IsPlainNode p number = (op : Op) → slice_get p.ops number ≡ Some op → is_quiet_work op.work ≡ true

abbrev pub ArePlain : Program → (Place → Bool) → Forest → Type 0
ArePlain p cells forest = (number : ℕ) (inner : Forest) (end : Option (List Event)) → Occurs number inner end forest
    → IsPlainNode p number × ((events : List Event) → end ≡ Some events → AreReadsIn cells events)

-- ---- two memories that agree on a set of cells, and on the objects that live in the first

pub record Lives (cells : Place → Bool) (number : ℕ) (object : Object) (memory : Memory) : Type 0 where
  pub other : Object
  pub lives : live_object memory number ≡ Some other
  pub shape : other.shape ≡ object.shape
  pub count : length other.cells ≡ length object.cells
  pub same : (cell : ℕ) → cells (number, cell) ≡ true → slice_index_or other.cells cell Unset ≡ slice_index_or object.cells cell Unset

pub record Agree (cells : Place → Bool) (one other : Memory) : Type 0 where
  pub lives : (number : ℕ) (object : Object) → live_object one number ≡ Some object → Lives cells number object other

-- the objects of nodes have as many cells in both
abbrev pub KnowsObjects : List Binding → Memory → Memory → Type 0
KnowsObjects bindings one other = (node number : ℕ) → object_for bindings node ≡ Some number → count_of (live_object other number) ≡ count_of (live_object one number)

-- ---- what an evaluation does that rests on these alone

pub record IsFramed (p : Program) (cells : Place → Bool) (program : Meaning) (s : World) (answer : Answer) (t : World) (forest : Forest) : Type 0 where
  pub taken : ℕ
  pub steps : s.steps ≡ taken + t.steps
  pub unchanged : t ≡ record s { steps = t.steps }
  pub moved : (other : World) (rest : ℕ) → other.bindings ≡ s.bindings → KnowsObjects s.bindings s.memory other.memory → Agree cells s.memory other.memory → other.steps ≡ taken + rest
      → Sees p program other (gave answer (record other { steps = rest })) forest

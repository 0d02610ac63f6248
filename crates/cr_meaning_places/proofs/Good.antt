-- Values and cells whose pointers are declared places.
use Rattle.std.proofs.Common.{◌≡◌, ℕ, zero, suc, Option, Some, None, List, [], ◌∷◌, get_or, set, take, drop, refl}
use Rattle.cr_memory.specs.declared.value.Scalar.{Scalar}
use Rattle.cr_memory.specs.declared.value.Scalar.TheVariants as scalar
use Rattle.cr_memory.specs.declared.value.Cell.{Cell}
use Rattle.cr_memory.specs.declared.value.Cell.TheVariants as cell
use Rattle.cr_memory.specs.Memory.{Object, Memory, live_object}
use Rattle.cr_memory.specs.Access.{some_object, overwritten}
use Rattle.cr_meaning.specs.World.{Program, Answer, part, returned}
use Rattle.cr_meaning.specs.Values.{value_in, cells_of_value}
use Rattle.cr_meaning.specs.Nodes.{value_of, values, last_in}
use Rattle.cr_meaning.specs.Turns.{last_of}
use Rattle.cr_meaning.specs.declared.value.Value.{Value}
use Rattle.cr_meaning.specs.declared.value.Value.TheVariants.{Nothing, Number, Pointer as Pointing, Place, Cells}
use Rattle.cr_meaning_places.specs.Places.{IsDeclared}
use Rattle.cr_meaning_places.proofs.Lasting.{Lasts, declared_later}

abbrev pub GoodCell : Program → Memory → Cell → Type 0
GoodCell p memory (cell.Pointer at) = IsDeclared p memory at
GoodCell p memory cell.Unset = Unit {0}
GoodCell p memory (cell.Number value) = Unit {0}

abbrev pub GoodCells : Program → Memory → List Cell → Type 0
GoodCells p memory [] = Unit {0}
GoodCells p memory (held ∷ rest) = GoodCell p memory held × GoodCells p memory rest

abbrev pub GoodValue : Program → Memory → Value → Type 0
GoodValue p memory Nothing = Unit {0}
GoodValue p memory (Number kind value) = Unit {0}
GoodValue p memory (Pointing at) = IsDeclared p memory at
GoodValue p memory (Place at) = IsDeclared p memory at
GoodValue p memory (Cells held) = GoodCells p memory held

abbrev pub GoodValues : Program → Memory → List Value → Type 0
GoodValues p memory [] = Unit {0}
GoodValues p memory (value ∷ rest) = GoodValue p memory value × GoodValues p memory rest

abbrev pub GoodAnswer : Program → Memory → Answer → Type 0
GoodAnswer p memory (part value events) = GoodValue p memory value
GoodAnswer p memory (returned value) = GoodValue p memory value
GoodAnswer p memory other = Unit {0}

abbrev pub GoodAnswers : Program → Memory → List Answer → Type 0
GoodAnswers p memory [] = Unit {0}
GoodAnswers p memory (answer ∷ rest) = GoodAnswer p memory answer × GoodAnswers p memory rest

-- all cells of all objects that live
abbrev pub AreGood : Program → Memory → Type 0
AreGood p memory = (n : ℕ) (live : Object) → live_object memory n ≡ Some live → GoodCells p memory live.cells

-- ---- later

pub cell_later : (p : Program) (old new : Memory) (held : Cell) → Lasts old new → GoodCell p old held → GoodCell p new held
cell_later p old new cell.Unset l h = tt
cell_later p old new (cell.Number value) l h = tt
cell_later p old new (cell.Pointer at) l h = declared_later p old new at l h

pub cells_later : (p : Program) (old new : Memory) (held : List Cell) → Lasts old new → GoodCells p old held → GoodCells p new held
cells_later p old new [] l h = tt
cells_later p old new (one ∷ rest) l h = (cell_later p old new one l h.0, cells_later p old new rest l h.1)

pub value_later : (p : Program) (old new : Memory) (value : Value) → Lasts old new → GoodValue p old value → GoodValue p new value
value_later p old new Nothing l h = tt
value_later p old new (Number kind value) l h = tt
value_later p old new (Pointing at) l h = declared_later p old new at l h
value_later p old new (Place at) l h = declared_later p old new at l h
value_later p old new (Cells held) l h = cells_later p old new held l h

pub answer_later : (p : Program) (old new : Memory) (answer : Answer) → Lasts old new → GoodAnswer p old answer → GoodAnswer p new answer
answer_later p old new (part value events) l h = value_later p old new value l h
answer_later p old new (returned value) l h = value_later p old new value l h
answer_later p old new other l h = tt

pub answers_later : (p : Program) (old new : Memory) (done : List Answer) → Lasts old new → GoodAnswers p old done → GoodAnswers p new done
answers_later p old new [] l h = tt
answers_later p old new (answer ∷ rest) l h = (answer_later p old new answer l h.0, answers_later p old new rest l h.1)

-- ---- answers and their values

pub value_good : (p : Program) (memory : Memory) (answer : Answer) → GoodAnswer p memory answer → GoodValue p memory (value_of answer)
value_good p memory (part value events) h = h
value_good p memory other h = tt

pub values_good : (p : Program) (memory : Memory) (done : List Answer) → GoodAnswers p memory done → GoodValues p memory (values done)
values_good p memory [] h = tt
values_good p memory (answer ∷ rest) h = (value_good p memory answer h.0, values_good p memory rest h.1)

pub last_of_good : (p : Program) (memory : Memory) (answer : Answer) (rest : List Answer) → GoodAnswer p memory answer → GoodAnswers p memory rest → GoodAnswer p memory (last_of answer rest)
last_of_good p memory answer [] h k = h
last_of_good p memory answer (later ∷ rest) h k = last_of_good p memory later rest k.0 k.1

pub last_good : (p : Program) (memory : Memory) (done : List Answer) → GoodAnswers p memory done → GoodAnswer p memory (last_in done)
last_good p memory [] h = tt
last_good p memory (answer ∷ rest) h = last_of_good p memory answer rest h.0 h.1

-- ---- lists of cells

pub good_taken : (p : Program) (memory : Memory) (count : ℕ) (held : List Cell) → GoodCells p memory held → GoodCells p memory (take count held)
good_taken p memory zero held h = tt
good_taken p memory (suc count) [] h = tt
good_taken p memory (suc count) (one ∷ rest) h = (h.0, good_taken p memory count rest h.1)

pub good_dropped : (p : Program) (memory : Memory) (count : ℕ) (held : List Cell) → GoodCells p memory held → GoodCells p memory (drop count held)
good_dropped p memory zero held h = h
good_dropped p memory (suc count) [] h = tt
good_dropped p memory (suc count) (one ∷ rest) h = good_dropped p memory count rest h.1

pub good_at : (p : Program) (memory : Memory) (held : List Cell) (place : ℕ) → GoodCells p memory held → GoodCell p memory (get_or held place cell.Unset)
good_at p memory [] place h = tt
good_at p memory (one ∷ rest) zero h = h.0
good_at p memory (one ∷ rest) (suc place) h = good_at p memory rest place h.1

good_set : (p : Program) (memory : Memory) (held : List Cell) (place : ℕ) (value : Cell) → GoodCells p memory held → GoodCell p memory value → GoodCells p memory (set held place value)
good_set p memory [] place value h v = tt
good_set p memory (one ∷ rest) zero value h v = (v, h.1)
good_set p memory (one ∷ rest) (suc place) value h v = (h.0, good_set p memory rest place value h.1 v)

pub good_overwritten : (p : Program) (memory : Memory) (held : List Cell) (place : ℕ) (written : List Cell) → GoodCells p memory held → GoodCells p memory written
    → GoodCells p memory (overwritten held place written)
good_overwritten p memory held place [] h w = h
good_overwritten p memory held place (value ∷ rest) h w = good_overwritten p memory (set held place value) (suc place) rest (good_set p memory held place value h w.0) w.1

pub good_in : (p : Program) (memory : Memory) (o : Option Object) → ((live : Object) → o ≡ Some live → GoodCells p memory live.cells) → GoodCells p memory (some_object o).cells
good_in p memory None h = tt
good_in p memory (Some live) h = h live refl

-- ---- values and cells

pub value_in_good : (p : Program) (memory : Memory) (kind : Scalar) (held : Cell) → GoodCell p memory held → GoodValue p memory (value_in kind held)
value_in_good p memory (scalar.Int kind) (cell.Number value) h = tt
value_in_good p memory (scalar.Int kind) (cell.Pointer at) h = h
value_in_good p memory (scalar.Int kind) cell.Unset h = tt
value_in_good p memory (scalar.Pointer to) (cell.Number value) h = tt
value_in_good p memory (scalar.Pointer to) (cell.Pointer at) h = h
value_in_good p memory (scalar.Pointer to) cell.Unset h = tt

pub cells_of_good : (p : Program) (memory : Memory) (value : Value) → GoodValue p memory value → GoodCells p memory (cells_of_value value)
cells_of_good p memory Nothing h = tt
cells_of_good p memory (Number kind value) h = (tt, tt)
cells_of_good p memory (Pointing at) h = (h, tt)
cells_of_good p memory (Place at) h = tt
cells_of_good p memory (Cells held) h = h

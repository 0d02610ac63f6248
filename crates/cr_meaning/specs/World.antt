-- What the meaning speaks of: programs, the world that a program works on, and what its nodes answer.
use Rattle.std.specs.Prelude.{ℕ, ◌==◌, true, false, Option, Some, None, Result, Ok, Err, List, [], ◌∷◌, length, replicate, if◌then◌else◌}
use Rattle.cr_memory.specs.declared.value.Scalar.{Scalar}
use Rattle.cr_memory.specs.declared.value.Guard.{Guard}
use Rattle.cr_memory.specs.declared.value.Element.{Element}
use Rattle.cr_memory.specs.declared.value.Pointer.{Pointer}
use Rattle.cr_memory.specs.declared.value.Pointer.TheVariants.{At}
use Rattle.cr_memory.specs.declared.value.Cell.{Cell}
use Rattle.cr_memory.specs.declared.value.Cell.TheVariants.{Unset}
use Rattle.cr_memory.specs.declared.value.Trap.{Trap}
use Rattle.cr_memory.specs.declared.value.Trap.TheVariants.{Undefined, Left, NoMemory}
use Rattle.cr_memory.specs.Memory.{Object, Memory, new_object, has_room, with_object, without_object, live_object, count_of}
use Rattle.cr_memory.specs.Access.{with_cells}
use Rattle.cr_meaning.specs.Events.{Event}
use Rattle.cr_meaning.specs.declared.op.Op.{Op}
use Rattle.cr_meaning.specs.declared.value.Value.{Value}
use Rattle.cr_meaning.specs.declared.run.Limits.{Limits}

-- ---- programs

-- the operations of a program's nodes, and of the whole program behind them; for a node that declares an object or is a string
-- literal the kinds and guards of the object's cells; for a literal its bytes with the closing zero (6.4.5p6); for a row of the
-- table of types the kinds of its cells; and the limits
pub record Program : Type 0 where
  pub ops : List Op
  pub shape : ℕ → List (Scalar × Guard)
  pub literal : ℕ → Option (List Cell)
  pub kinds : ℕ → List Scalar
  pub limits : Limits

-- ---- the world

-- an object that was entered for a node, or the beginning of a block or a call
pub data Binding : Type 0 where
  bound : ℕ → ℕ → Binding
  mark : Binding

-- the memory, the bytes printed so far, the steps that are left, how many calls run, and the objects by their nodes, the last
-- entered first
pub record World : Type 0 where
  pub memory : Memory
  pub output : List ℕ
  pub steps : ℕ
  pub depth : ℕ
  pub bindings : List Binding

-- ---- answers

-- what a node answers: an expression a value and its events; a statement (6.8) that the next one follows, or that a `break`, a
-- `continue`, a `goto` to a label or a `return` is under way
pub data Answer : Type 0 where
  part : Value → List Event → Answer
  next : Answer
  broke : Answer
  continued : Answer
  jumped : ℕ → Answer
  returned : Value → Answer

-- why a run ends before its program gives an answer: a case at a node, or `exit` and `abort` with a status
pub data Halt : Type 0 where
  stopped : Trap → ℕ → Halt
  exited : ℕ → World → Halt

-- operands that no program of the subset has. The memory's trap for want of memory stands for that, which is no case
abbrev pub untyped : Trap
untyped = NoMemory

abbrev pub unused_value : Trap
unused_value = Undefined 15

-- one result after another, as far as there is no case
abbrev pub then_by : {A B : Type 0} → Result A Trap → (A → Result B Trap) → Result B Trap
then_by (Ok a) f = f a
then_by (Err e) f = Err e

-- ---- objects and their nodes (6.2.4)

-- the object that was entered last for a node
abbrev pub object_for : List Binding → ℕ → Option ℕ
object_for [] node = None
object_for (bound declared object ∷ rest) node = if declared == node then Some object else object_for rest node
object_for (mark ∷ rest) node = object_for rest node

-- the place of a whole object, an array of one
abbrev pub whole_place : Memory → ℕ → ℕ → Pointer
whole_place memory object of =
    let whole : Element = record { cells = count_of (live_object memory object); of = of } in
    At object 0 0 (count_of (live_object memory object)) whole

abbrev pub with_binding : World → ℕ → Object → World
with_binding world node object =
    record world { memory = with_object world.memory object; bindings = bound node (length world.memory.objects) ∷ world.bindings }

-- an object is entered for a node, if it fits (N3)
abbrev pub enter_object : World → ℕ → Object → Result World (Trap × ℕ)
enter_object world node object =
    if has_room world.memory (length object.shape) then Ok (with_binding world node object) else Err (Left 3, node)

-- one object after another, in the order of the nodes
abbrev pub enter_all : (ℕ → Object) → World → List ℕ → Result World (Trap × ℕ)
enter_all made world [] = Ok world
enter_all made world (node ∷ nodes) = elim (enter_object world node (made node)) as (λ _. Result World (Trap × ℕ))
    [ Ok entered ↦ enter_all made entered nodes | Err trap ↦ Err trap ]

-- an object of automatic duration: nothing is in its cells (6.2.4p6)
abbrev pub automatic : Program → ℕ → Object
automatic p node = new_object false (p.shape node)

-- an object of static duration begins as zero or null (6.7.9p10), and a literal holds its bytes (6.4.5p6)
abbrev pub literal_or : Option (List Cell) → List (Scalar × Guard) → Object
literal_or None shape = new_object true shape
literal_or (Some cells) shape = record { cells = cells; shape = shape }

abbrev pub static : Program → ℕ → Object
static p node = literal_or (p.literal node) (p.shape node)

abbrev pub marked : World → World
marked world = record world { bindings = mark ∷ world.bindings }

-- the end of a block or a call: the lifetimes of the objects entered since its beginning end (6.2.4p6)
abbrev pub left_by : Memory → List Binding → Memory × List Binding
left_by memory [] = (memory, [])
left_by memory (mark ∷ rest) = (memory, rest)
left_by memory (bound node object ∷ rest) = left_by (without_object memory object) rest

abbrev pub closed : World → World
closed world = record world { memory = (left_by world.memory world.bindings).0; bindings = (left_by world.memory world.bindings).1 }

-- where a declaration without initialiser is reached its object holds nothing again (6.2.4p6)
abbrev pub unset_again : Memory → ℕ → Memory
unset_again memory object = with_cells memory object 0 (replicate (count_of (live_object memory object)) Unset)

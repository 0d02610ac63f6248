-- What a node does on the world once its parts have answered: expressions (C11 6.5), calls (6.5.2.2, 6.9.1), declarations (6.7).
use Rattle.std.specs.Prelude.{ℕ, suc, ◌-◌, pos, nat_le, Bool, Option, Some, None, Result, Ok, Err, List, [], ◌∷◌, ◌++◌, map, if◌then◌else◌}
use Rattle.std.specs.List.{list_any}
use Rattle.cr_ints.specs.declared.kind.IntKind.TheVariants.{Int as IntegerKind}
use Rattle.cr_ints.specs.Conversions.{convert_of}
use Rattle.cr_memory.specs.declared.value.Scalar.{Scalar}
use Rattle.cr_memory.specs.declared.value.Scalar.TheVariants as scalar
use Rattle.cr_memory.specs.declared.value.Cell.{Cell}
use Rattle.cr_memory.specs.declared.value.Cell.TheVariants as cell
use Rattle.cr_memory.specs.declared.value.Trap.{Trap}
use Rattle.cr_memory.specs.declared.value.Trap.TheVariants.{Undefined, Left}
use Rattle.cr_memory.specs.Memory.{Object, Memory, zero_of}
use Rattle.cr_memory.specs.Access.{object_at, with_cells}
use Rattle.cr_meaning.specs.Language.{Acted, went, halts}
use Rattle.cr_meaning.specs.Events.{Event, Order, Beside, Sequence, Arguments, clash, gathered, operands_clash}
use Rattle.cr_meaning.specs.World.{Program, World, Answer, part, next, returned, Halt, stopped, exited, untyped, unused_value, then_by, object_for, enter_object, marked, closed}
use Rattle.cr_meaning.specs.Values.{kinds_in, converted, cells_of_value}
use Rattle.cr_meaning.specs.Work.{Did, is_nothing, work_of}
use Rattle.cr_meaning.specs.Library.{Called, printf_of, putchar_of, exit_of}
use Rattle.cr_meaning.specs.Turns.{last_of}
use Rattle.cr_meaning.specs.declared.op.Op.{Op}
use Rattle.cr_meaning.specs.declared.op.Line.{Line}
use Rattle.cr_meaning.specs.declared.op.Parameter.{Parameter}
use Rattle.cr_meaning.specs.declared.op.Callee.{Callee}
use Rattle.cr_meaning.specs.declared.op.Callee.TheVariants.{Function, Printf, Putchar, Exit, Abort}
use Rattle.cr_meaning.specs.declared.op.Work.{Work}
use Rattle.cr_meaning.specs.declared.op.Work.TheVariants as work
use Rattle.cr_meaning.specs.declared.value.Value.{Value}
use Rattle.cr_meaning.specs.declared.value.Value.TheVariants.{Nothing, Number, Place}

abbrev pub Act : Type 0
Act = Acted Answer World Halt

-- a case at a node
abbrev pub stops : Trap → ℕ → Act
stops trap node = halts (stopped trap node)

-- what comes of a result at a node
abbrev pub resulting : {A : Type 0} → ℕ → Result A Trap → (A → Act) → Act
resulting node (Ok a) f = f a
resulting node (Err trap) f = stops trap node

-- the same of objects that are entered, where N3 is at the node of the one that doesn't fit
abbrev pub entering : Result World (Trap × ℕ) → Act
entering (Ok world) = went next world
entering (Err case) = stops case.0 case.1

-- ---- answers of parts

abbrev pub value_of : Answer → Value
value_of (part value events) = value
value_of other = Nothing

abbrev pub events_of : Answer → List Event
events_of (part value events) = events
events_of other = []

abbrev pub values : List Answer → List Value
values done = map value_of done

abbrev pub last_in : List Answer → Answer
last_in [] = next
last_in (answer ∷ rest) = last_of answer rest

-- ---- expressions (6.5)

-- the order of a node's operands; `&&` and `||` make a sequence point only where the right operand is evaluated, a choice of this
-- project
abbrev pub both_order : List Answer → Order
both_order (left ∷ right ∷ rest) = Sequence
both_order other = Beside

abbrev pub order_of : Work → List Answer → Order
order_of work.Comma done = Sequence
order_of (work.Conditional form) done = Sequence
order_of work.LogicalAnd done = both_order done
order_of work.LogicalOr done = both_order done
order_of (work.Call callee) done = Arguments
order_of other done = Beside

abbrev pub all_events : Work → List Answer → List Event
all_events work done = gathered (order_of work done) 0 (map events_of done)

-- a conflict between operands (U12) comes before the node's own work
abbrev pub unless_clash : ℕ → Work → List Answer → Act → Act
unless_clash node work done rest = if operands_clash (order_of work done) 0 (map events_of done) then stops (Undefined 12) node else rest

-- and a conflict of its own events after it
abbrev pub evaluated : ℕ → Work → List Answer → World → Did → Act
evaluated node work done world did =
    if clash did.events (all_events work done)
    then stops (Undefined 12) node
    else went (part did.value (did.events ++ all_events work done)) (record world { memory = did.memory })

abbrev pub expression : Program → ℕ → Op → List Answer → World → Act
expression p node op done world =
    unless_clash node op.work done (resulting node (work_of p world op.work op.access (values done)) (evaluated node op.work done world))

-- ---- calls (6.5.2.2, 6.9.1)

-- the arguments are converted to the parameters' types, as if by assignment (6.5.2.2p7)
abbrev pub converted_all : Memory → List Parameter → List Value → Result (List Value) Trap
converted_all memory [] [] = Ok []
converted_all memory (parameter ∷ parameters) (value ∷ rest) =
    then_by (converted memory parameter.form value) (λ one. then_by (converted_all memory parameters rest) (λ others. Ok (one ∷ others)))
converted_all memory parameters other = Err untyped

-- U15 of any of them comes first
abbrev pub arguments : Memory → List Parameter → List Value → Result (List Value) Trap
arguments memory parameters given = if list_any is_nothing given then Err unused_value else converted_all memory parameters given

-- a parameter is an object that begins with its argument (6.9.1p10)
abbrev pub with_argument : Program → Parameter → Value → Object
with_argument p parameter value = record { cells = cells_of_value value; shape = p.shape parameter.node }

abbrev pub enter_parameters : Program → World → List Parameter → List Value → Result World (Trap × ℕ)
enter_parameters p world (parameter ∷ parameters) (value ∷ rest) =
    elim (enter_object world parameter.node (with_argument p parameter value)) as (λ _. Result World (Trap × ℕ))
    [ Ok entered ↦ enter_parameters p entered parameters rest | Err case ↦ Err case ]
enter_parameters p world parameters rest = Ok world

abbrev pub deeper : World → World
deeper world = marked (record world { depth = suc world.depth })

-- N2: so many calls run already
abbrev pub begun : Program → ℕ → List Parameter → World → List Value → Act
begun p node parameters world given =
    if nat_le p.limits.depth world.depth then stops (Left 2) node else entering (enter_parameters p (deeper world) parameters given)

abbrev pub called : Program → ℕ → Work → List Parameter → List Answer → World → Act
called p node work parameters done world =
    unless_clash node work done (resulting node (arguments world.memory parameters (values done)) (begun p node parameters world))

-- the end of a call: the parameters' lifetimes end; the value is that of the `return`, and there is none where the closing brace
-- was reached, but of main that gives 0 (5.1.2.2.3p1, 6.9.1p12)
abbrev pub result_of : Bool → Answer → Value
result_of is_main (returned value) = value
result_of is_main other = if is_main then Number IntegerKind (pos 0) else Nothing

abbrev pub shallower : World → World
shallower world = record (closed world) { depth = world.depth - 1 }

abbrev pub ended_call : Work → Bool → List Answer → World → Act
ended_call work is_main done world = went (part (result_of is_main (last_in done)) (all_events work done)) (shallower world)

-- a call of the library
abbrev pub after_library : Work → List Answer → World → Called → Act
after_library work done world called = went (part called.value (all_events work done)) (record world { output = called.output })

abbrev pub library : Program → ℕ → Work → Callee → List Answer → World → Act
library p node work (Printf texts) done world = resulting node (printf_of p world texts (values done)) (after_library work done world)
library p node work Putchar done world = resulting node (putchar_of p world (values done)) (after_library work done world)
library p node work Exit done world = resulting node (exit_of (values done)) (λ status. halts (exited status world))
library p node work Abort done world = halts (exited 134 world)
library p node work other done world = stops untyped node

abbrev pub call_end : Program → ℕ → Work → Callee → List Answer → World → Act
call_end p node work (Function parameters body is_main) done world = ended_call work is_main done world
call_end p node work callee done world = unless_clash node work done (library p node work callee done world)

-- ---- declarations (6.7, 6.7.9)

-- a cell of a string literal as the element of this kind that it initialises: the kinds of character types differ in their ranges
abbrev pub element_of : Scalar → Cell → Cell
element_of (scalar.Int kind) (cell.Number value) = cell.Number (convert_of value kind)
element_of kind held = held

-- a literal's cells as the elements of an array of these kinds, as far as there is room (6.7.9p14)
abbrev pub elements_of : List Scalar → List Cell → List Cell
elements_of (kind ∷ kinds) (held ∷ rest) = element_of kind held ∷ elements_of kinds rest
elements_of kinds rest = []

-- what an initialiser gives its part: the converted value, or a string literal's chars
abbrev pub initial : Program → Memory → Line → Value → Result (List Cell) Trap
initial p memory line (Place at) = Ok (elements_of (kinds_in p line.form) (object_at memory at).cells)
initial p memory line value = then_by (converted memory line.form value) (λ new. Ok (cells_of_value new))

-- the parts that are set, each from its cell on; a case is at the declarator or the braced list that uses the value
abbrev pub set_parts : Program → Memory → List Line → List Value → Result (List (ℕ × List Cell)) (Trap × ℕ)
set_parts p memory (line ∷ lines) (value ∷ rest) = elim (initial p memory line value) as (λ _. Result (List (ℕ × List Cell)) (Trap × ℕ)) [
  | Err trap ↦ Err (trap, line.user)
  | Ok cells ↦ elim (set_parts p memory lines rest) as (λ _. Result (List (ℕ × List Cell)) (Trap × ℕ))
      [ Ok others ↦ Ok ((line.cell, cells) ∷ others) | Err case ↦ Err case ]
]
set_parts p memory lines rest = Ok []

-- what uses the first initialiser without a value
abbrev pub unused_in : List Line → List Value → Option ℕ
unused_in (line ∷ lines) (Nothing ∷ rest) = Some line.user
unused_in (line ∷ lines) (value ∷ rest) = unused_in lines rest
unused_in lines rest = None

-- U15 of any of them comes first
abbrev pub initials : Program → Memory → List Line → List Value → Result (List (ℕ × List Cell)) (Trap × ℕ)
initials p memory lines given = elim (unused_in lines given) as (λ _. Result (List (ℕ × List Cell)) (Trap × ℕ))
    [ Some user ↦ Err (unused_value, user) | None ↦ set_parts p memory lines given ]

abbrev pub with_parts : Memory → ℕ → List (ℕ × List Cell) → Memory
with_parts memory object [] = memory
with_parts memory object (set ∷ rest) = with_parts (with_cells memory object set.0 set.1) object rest

-- the cells are set when all initialisers have been evaluated, and those without an initialiser become zero or null with them
-- (6.7.9p19, p21; the moment is this project's choice)
abbrev pub zeroed : Program → Memory → ℕ → ℕ → Memory
zeroed p memory object node = with_cells memory object 0 (map (λ own. zero_of own.0) (p.shape node))

abbrev pub initialised : Program → ℕ → World → ℕ → Result (List (ℕ × List Cell)) (Trap × ℕ) → Act
initialised p node world object (Ok sets) = went next (record world { memory = with_parts (zeroed p world.memory object node) object sets })
initialised p node world object (Err case) = stops case.0 case.1

abbrev pub on_object : ℕ → World → ℕ → (ℕ → Act) → Act
on_object at world node f = elim (object_for world.bindings node) as (λ _. Act) [ Some object ↦ f object | None ↦ stops untyped at ]

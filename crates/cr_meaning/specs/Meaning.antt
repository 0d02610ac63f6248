-- The meaning of a program: its nodes in turn, statements (C11 6.8), the whole program (5.1.2), and what a run comes to.
use Rattle.std.specs.Prelude.{◌≡◌, ℕ, zero, suc, ◌-◌, pos, Bool, true, false, Option, Some, None, Result, Ok, Err, List, [], ◌∷◌, ◌++◌, length, slice_get}
use Rattle.cr_ints.specs.declared.kind.IntKind.TheVariants.{Int as IntegerKind}
use Rattle.cr_memory.specs.declared.value.Scalar.{Scalar}
use Rattle.cr_memory.specs.declared.value.Guard.TheVariants.{Free}
use Rattle.cr_memory.specs.declared.value.Pointer.TheVariants.{Null, At}
use Rattle.cr_memory.specs.declared.value.Cell.TheVariants as cell
use Rattle.cr_memory.specs.declared.value.Trap.{Trap}
use Rattle.cr_memory.specs.declared.value.Trap.TheVariants.{Undefined, Left}
use Rattle.cr_memory.specs.Memory.{Object}
use Rattle.cr_meaning.specs.Language.{Reply, went, halts, gave, ended, Prog, give, act, call, Runs}
use Rattle.cr_meaning.specs.World.{Program, World, Answer, next, broke, continued, jumped, returned, Halt, stopped, exited, untyped, enter_object, enter_all, automatic, static, marked, closed, unset_again}
use Rattle.cr_meaning.specs.Values.{asked, converted, scalar_element}
use Rattle.cr_meaning.specs.Work.{integer}
use Rattle.cr_meaning.specs.Library.{status_of}
use Rattle.cr_meaning.specs.Turns.{Way, Operand, Enter, Resume, Ready, next_of}
use Rattle.cr_meaning.specs.Nodes.{Act, stops, resulting, entering, value_of, values, last_in, expression, call_end, called, enter_parameters, deeper, initials, initialised, on_object}
use Rattle.cr_meaning.specs.declared.op.Op.{Op}
use Rattle.cr_meaning.specs.declared.op.Form.{Form}
use Rattle.cr_meaning.specs.declared.op.Parameter.{Parameter}
use Rattle.cr_meaning.specs.declared.op.Callee.{Callee}
use Rattle.cr_meaning.specs.declared.op.Callee.TheVariants.{Function}
use Rattle.cr_meaning.specs.declared.op.Work.{Work}
use Rattle.cr_meaning.specs.declared.op.Work.TheVariants as work
use Rattle.cr_meaning.specs.declared.value.Value.TheVariants.{Nothing, Number, Pointer as Pointing}
use Rattle.cr_meaning.specs.declared.run.Limits.{Limits}
use Rattle.cr_meaning.specs.declared.run.Run.{Run}
use Rattle.cr_meaning.specs.declared.run.Run.TheVariants as run

-- ---- steps

-- expressions and statements take a step when they are reached, and a declaration takes none
abbrev pub takes_step : Work → Bool
takes_step work.Declaration = false
takes_step (work.Declare node) = false
takes_step (work.Initialise node lines) = false
takes_step other = true

-- N1: no step is left
abbrev pub stepped : ℕ → World → ℕ → Act
stepped node world zero = stops (Left 1) node
stepped node world (suc steps) = went next (record world { steps = steps })

abbrev pub reached_by : ℕ → World → Bool → Act
reached_by node world true = stepped node world world.steps
reached_by node world false = went next world

abbrev pub reached : ℕ → Option Op → World → Act
reached node None world = stops untyped node
reached node (Some op) world = reached_by node world (takes_step op.work)

-- ---- work before a part (6.8.2, 6.8.4, 6.8.5)

-- a controlling expression is an operation on its value: U15, U10
abbrev pub controlled : ℕ → Answer → World → Act
controlled node control world = resulting node (asked world.memory (value_of control)) (λ _. went next world)

-- the objects of automatic duration that a block declares, from its beginning on (6.2.4p6)
abbrev pub opened : Program → List ℕ → World → Act
opened p objects world = entering (enter_all (automatic p) (marked world) objects)

-- a `switch` that has found its item: its body is a statement that is reached
abbrev pub opened_if : Program → List ℕ → Act → Act
opened_if p objects (went answer world) = opened p objects world
opened_if p objects (halts halt) = halts halt

abbrev pub switched : Program → ℕ → List ℕ → World → Act
switched p body objects world = opened_if p objects (stepped body world world.steps)

-- main's parameters get 0 and a pointer to an array of one null pointer, which is entered before them and, where it doesn't fit, is
-- at the node of the second (5.1.2.2.1p2)
abbrev pub strings_of : Scalar → Object
strings_of strings = record { cells = cell.Pointer Null ∷ []; shape = (strings, Free) ∷ [] }

abbrev pub main_entered : Program → Scalar → List Parameter → World → Result World (Trap × ℕ)
main_entered p strings (count ∷ vector ∷ []) world =
    elim (enter_object world vector.node (strings_of strings)) as (λ _. Result World (Trap × ℕ)) [
      | Ok entered ↦ enter_parameters p entered (count ∷ vector ∷ []) (Number IntegerKind (pos 0) ∷ Pointing (At (length world.memory.objects) 0 0 1 (scalar_element strings)) ∷ [])
      | Err case ↦ Err case
    ]
main_entered p strings parameters world = Ok world

-- before main the objects of static duration and the literals, in order of their tokens (5.1.2p1, 6.2.4p3)
abbrev pub program_before : Program → List ℕ → List Parameter → Scalar → List Answer → World → Act
program_before p objects parameters strings [] world = entering (enter_all (static p) world objects)
program_before p objects parameters strings done world = entering (main_entered p strings parameters (deeper world))

abbrev pub for_before : Program → ℕ → List ℕ → List Answer → World → Act
for_before p node objects [] world = opened p objects world
for_before p node objects (begun ∷ control ∷ []) world = controlled node control world
for_before p node objects done world = went next world

abbrev pub switch_before : Program → ℕ → List ℕ → List Answer → World → Act
switch_before p body objects (control ∷ []) world = switched p body objects world
switch_before p body objects done world = went next world

abbrev pub block_before : Program → List ℕ → List Answer → World → Act
block_before p objects [] world = opened p objects world
block_before p objects done world = went next world

abbrev pub control_before : ℕ → List Answer → World → Act
control_before node (control ∷ []) world = controlled node control world
control_before node done world = went next world

abbrev pub do_before : ℕ → List Answer → World → Act
do_before node (body ∷ control ∷ []) world = controlled node control world
do_before node done world = went next world

abbrev pub call_before : Program → ℕ → Work → Callee → List Answer → World → Act
call_before p node work (Function parameters body is_main) done world = called p node work parameters done world
call_before p node work callee done world = stops untyped node

abbrev pub before_by : Program → ℕ → Work → List Answer → World → Act
before_by p node (work.Call callee) done world = call_before p node (work.Call callee) callee done world
before_by p node work.If done world = control_before node done world
before_by p node work.While done world = control_before node done world
before_by p node work.Do done world = do_before node done world
before_by p node (work.For objects first control step body) done world = for_before p node objects done world
before_by p node (work.Switch kind body objects cases other labels) done world = switch_before p body objects done world
before_by p node (work.Block objects labels) done world = block_before p objects done world
before_by p node (work.Program objects parameters strings body) done world = program_before p objects parameters strings done world
before_by p node other done world = went next world

-- ---- the end of statements

-- `break` ends its loop or switch (6.8.6.3p2), and a loop has no use for `continue` behind its body's end
abbrev pub after_loop : Answer → Answer
after_loop broke = next
after_loop continued = next
after_loop other = other

abbrev pub after_switch : Answer → Answer
after_switch broke = next
after_switch other = other

abbrev pub if_end : ℕ → List Answer → World → Act
if_end node (control ∷ []) world = controlled node control world
if_end node done world = went (last_in done) world

abbrev pub while_end : ℕ → List Answer → World → Act
while_end node (control ∷ []) world = controlled node control world
while_end node done world = went (after_loop (last_in done)) world

abbrev pub do_end : ℕ → List Answer → World → Act
do_end node (body ∷ control ∷ []) world = controlled node control world
do_end node done world = went (after_loop (last_in done)) world

-- the objects of the declaration end with the loop (6.8.5p5)
abbrev pub for_end : ℕ → List Answer → World → Act
for_end node (begun ∷ control ∷ []) world = resulting node (asked world.memory (value_of control)) (λ _. went next (closed world))
for_end node done world = went (after_loop (last_in done)) (closed world)

abbrev pub switch_end : ℕ → List Answer → World → Act
switch_end node (control ∷ []) world = resulting node (integer (value_of control)) (λ _. went next world)
switch_end node done world = went (after_switch (last_in done)) (closed world)

-- the value of a `return` is converted as if by assignment (6.8.6.4p3)
abbrev pub return_end : ℕ → Form → List Answer → World → Act
return_end node form [] world = went (returned Nothing) world
return_end node form (answer ∷ rest) world = resulting node (converted world.memory form (value_of answer)) (λ value. went (returned value) world)

-- main's closing brace gives 0
abbrev pub program_end : Answer → Answer
program_end (returned value) = returned value
program_end other = returned (Number IntegerKind (pos 0))

-- ---- a node's own work

abbrev pub join_by : Program → ℕ → Op → Work → List Answer → World → Act
join_by p node op (work.Call callee) done world = call_end p node (work.Call callee) callee done world
join_by p node op work.Expression done world = went next world
join_by p node op work.If done world = if_end node done world
join_by p node op work.While done world = while_end node done world
join_by p node op work.Do done world = do_end node done world
join_by p node op (work.For objects first control step body) done world = for_end node done world
join_by p node op (work.Switch kind body objects cases other labels) done world = switch_end node done world
join_by p node op (work.Block objects labels) done world = went (last_in done) (closed world)
join_by p node op work.Labelled done world = went (last_in done) world
join_by p node op work.Break done world = went broke world
join_by p node op work.Continue done world = went continued world
join_by p node op (work.Goto label) done world = went (jumped label) world
join_by p node op (work.Return form) done world = return_end node form done world
join_by p node op work.Declaration done world = went next world
join_by p node op (work.Declare declared) done world =
    on_object node world declared (λ object. went next (record world { memory = unset_again world.memory object }))
join_by p node op (work.Initialise declared lines) done world =
    on_object node world declared (λ object. initialised p declared world object (initials p world.memory lines (values done)))
join_by p node op (work.Program objects parameters strings body) done world = went (program_end (last_in done)) world
join_by p node op other done world = expression p node op done world

-- ---- the meaning

-- what is asked of a node: that it is reached; that it goes on after these answers of its parts
pub data Goal : Type 0 where
  reach : ℕ → Goal
  operands : ℕ → List Answer → Goal

abbrev pub Meaning : Type 0
Meaning = Prog Goal Answer World Halt

-- the answer of a part, and on
abbrev pub with_part : ℕ → ℕ → List Answer → Meaning
with_part node operand done = call (reach operand) (λ answer. call (operands node (done ++ answer ∷ [])) give)

abbrev pub on_way : Program → ℕ → Op → List Answer → Way → Meaning
on_way p node op done (Operand operand) = with_part node operand done
on_way p node op done (Enter operand) = act (before_by p node op.work done) (λ _. with_part node operand done)
on_way p node op done (Resume again) = act (before_by p node op.work done) (λ _. call (operands node again) give)
on_way p node op done Ready = act (join_by p node op op.work done) give

abbrev pub at_op : Program → ℕ → List Answer → Option Op → Meaning
at_op p node done None = act (λ _. stops untyped node) give
at_op p node done (Some op) = on_way p node op done (next_of op done)

unfoldable pub body : Program → Goal → Meaning
body p (reach node) = act (reached node (slice_get p.ops node)) (λ _. call (operands node []) give)
body p (operands node done) = at_op p node done (slice_get p.ops node)

-- ---- what a run comes to

-- nothing is there at first
abbrev pub start_of : Limits → World
start_of limits = record { memory = record { most = limits.cells; objects = [] }; output = []; steps = limits.steps; depth = 0; bindings = [] }

-- the whole program's operation is the last one
abbrev pub root_of : Program → ℕ
root_of p = length p.ops - 1

abbrev pub ended_with : Limits → ℕ → World → Run
ended_with limits status world = run.Ended status world.output (limits.steps - world.steps)

abbrev pub run_of : Limits → Reply Answer World Halt → Option Run
run_of limits (gave (returned (Number kind value)) world) = Some (ended_with limits (status_of value) world)
run_of limits (ended (exited status world)) = Some (ended_with limits status world)
run_of limits (ended (stopped (Undefined number) node)) = Some (run.Undefined number node)
run_of limits (ended (stopped (Left number) node)) = Some (run.Left number node)
run_of limits other = None

-- the meaning of a program: what the run from its start comes to
pub record Means (p : Program) (outcome : Run) : Type 0 where
  pub reply : Reply Answer World Halt
  pub runs : Runs (body p) (body p (operands (root_of p) [])) (start_of p.limits) reply
  pub comes : run_of p.limits reply ≡ Some outcome

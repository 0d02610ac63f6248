-- Work of statements in parts that several kinds share.
use Rattle.std.specs.Prelude.{ℕ, pos, Result, Ok, Err, List, [], ◌∷◌, length}
use Rattle.cr_memory.specs.declared.value.Scalar.{Scalar}
use Rattle.cr_memory.specs.declared.value.Pointer.TheVariants.{At}
use Rattle.cr_memory.specs.declared.value.Cell.TheVariants as cell
use Rattle.cr_memory.specs.declared.value.Trap.{Trap}
use Rattle.cr_meaning.specs.Language.{went, halts}
use Rattle.cr_meaning.specs.World.{Program, World, Answer, next, returned, enter_object}
use Rattle.cr_meaning.specs.Nodes.{Act, resulting, last_in}
use Rattle.cr_meaning.specs.Values.{asked, converted, scalar_element}
use Rattle.cr_meaning.specs.Work.{integer}
use Rattle.cr_meaning.specs.Meaning.{controlled, strings_of}
use Rattle.cr_meaning.specs.declared.op.Form.{Form}
use Rattle.cr_meaning.specs.declared.value.Value.{Value}

-- the work of a controlling expression with this value, and of that of a `switch`
abbrev pub controlled_by : ℕ → Value → World → Act
controlled_by node value world = resulting node (asked world.memory value) (λ _. went next world)

abbrev pub counted_by : ℕ → Value → World → Act
counted_by node value world = resulting node (integer value) (λ _. went next world)

-- the work of a `return` with this value
abbrev pub returned_by : ℕ → Form → Value → World → Act
returned_by node form value world = resulting node (converted world.memory form value) (λ new. went (returned new) world)

-- where the second answer is a controlling expression's and the last, its work, and else the last answer
abbrev pub second_end : ℕ → List Answer → World → Act
second_end node (body ∷ control ∷ []) world = controlled node control world
second_end node done world = went (last_in done) world

-- another answer, and then another world
abbrev pub behind : (Answer → Answer) → (World → World) → Act → Act
behind answering leaving (went answer world) = went (answering answer) (leaving world)
behind answering leaving (halts halt) = halts halt

abbrev pub as_before : {A : Type 0} → A → A
as_before a = a

-- ---- main's parameters, by the nodes that declare them

abbrev pub entered_then : Result World (Trap × ℕ) → (World → Result World (Trap × ℕ)) → Result World (Trap × ℕ)
entered_then (Ok world) f = f world
entered_then (Err case) f = Err case

abbrev pub arguments_entered : Program → Scalar → ℕ → ℕ → ℕ → World → Result World (Trap × ℕ)
arguments_entered p strings object count vector world =
    entered_then (enter_object world count (record { cells = cell.Number (pos 0) ∷ []; shape = p.shape count }))
    (λ entered. enter_object entered vector (record { cells = cell.Pointer (At object 0 0 1 (scalar_element strings)) ∷ []; shape = p.shape vector }))

abbrev pub strings_entered : Program → Scalar → ℕ → ℕ → World → Result World (Trap × ℕ)
strings_entered p strings count vector world =
    entered_then (enter_object world vector (strings_of strings)) (arguments_entered p strings (length world.memory.objects) count vector)

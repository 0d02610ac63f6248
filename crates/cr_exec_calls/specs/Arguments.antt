-- The values of a call's arguments, as their answers are kept.
use Rattle.std.specs.Prelude.{Bool, true, Result, Ok, Err, List}
use Rattle.std.specs.Global.{Vec}
use Rattle.cr_memory.specs.declared.value.Trap.{Trap}
use Rattle.cr_meaning.specs.Work.{is_nothing}
use Rattle.cr_meaning.specs.declared.value.Value.{Value}
pub use Rattle.cr_exec_turns.specs.Held.{value_in, values_in}
use Rattle.cr_exec_turns.specs.declared.held.Held.{Held}
use Rattle.cr_exec_turns.specs.declared.held.Held.TheVariants as held

-- an argument without a value
abbrev pub is_unused : Held → Bool
is_unused (held.Part given) = is_nothing given.value
is_unused other = true

abbrev pub listed : Result (Vec Value) Trap → Result (List Value) Trap
listed (Ok values) = Ok values.items
listed (Err trap) = Err trap

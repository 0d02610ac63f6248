-- Arguments as values of the parameters' types, one after another.
use Rattle.std.proofs.Common.{◌≡◌, Bool, true, false, ◌||◌, if◌then◌else◌, Result, Ok, Err, List, [], ◌∷◌, ◌++◌, map, length, refl, sym, ap, ap₂, ◌∙◌, subst, append_assoc, append-nil, arith}
use Rattle.std.specs.List.{list_any}
use Rattle.cr_memory.specs.declared.value.Trap.{Trap}
use Rattle.cr_memory.specs.declared.value.Trap.TheVariants.{Undefined}
use Rattle.cr_memory.specs.Memory.{Memory}
use Rattle.cr_meaning.specs.World.{unused_value, then_by}
use Rattle.cr_meaning.specs.Values.{converted}
use Rattle.cr_meaning.specs.Work.{is_nothing}
use Rattle.cr_meaning.specs.Nodes.{arguments, converted_all}
use Rattle.cr_meaning.specs.declared.op.Parameter.{Parameter}
use Rattle.cr_meaning.specs.declared.value.Value.{Value}
use Rattle.cr_eval.specs.Answers.{Answers}
use Rattle.cr_eval.proofs.Answering.{ends_answer}
use Rattle.cr_exec_turns.specs.declared.held.Held.{Held}
use Rattle.cr_exec_turns.specs.declared.held.Held.TheVariants as held
use Rattle.cr_exec_calls.specs.Arguments.{value_in, values_in, is_unused}

unused_so : (h : Held) → is_unused h ≡ is_nothing (value_in h)
unused_so (held.Part given) = refl
unused_so held.Next = refl
unused_so held.Broke = refl
unused_so held.Continued = refl
unused_so (held.Jumped label) = refl
unused_so (held.Returned v) = refl

any_unused : (done : List Held) → list_any is_unused done ≡ list_any is_nothing (values_in done)
any_unused [] = refl
any_unused (h ∷ done) = ap₂ (λ (a : Bool). λ (b : Bool). a || b) (unused_so h) (any_unused done)

-- U15 of any argument, or their conversion
arguments_by : (memory : Memory) (parameters : List Parameter) (done : List Held) (b : Bool) → list_any is_unused done ≡ b
    → (if b then Err unused_value else converted_all memory parameters (values_in done)) ≡ arguments memory parameters (values_in done)
arguments_by memory parameters done b e =
    ap (λ (x : Bool). if x then Err unused_value else converted_all memory parameters (values_in done)) (sym e ∙ any_unused done)

pub unused_fails : (memory : Memory) (parameters : List Parameter) (done : List Held) → list_any is_unused done ≡ true
    → Answers (arguments memory parameters (values_in done)) (Err (Undefined 15))
unused_fails memory parameters done e = record { says = sym (arguments_by memory parameters done true e) }

pub all_used : (memory : Memory) (parameters : List Parameter) (done : List Held) (result : Result (List Value) Trap) → list_any is_unused done ≡ false
    → Answers (converted_all memory parameters (values_in done)) result → Answers (arguments memory parameters (values_in done)) result
all_used memory parameters done result e h =
    let P : Result (List Value) Trap → Type 0 = λ r. Answers r result in subst P (arguments_by memory parameters done false e) h

-- values behind those that are there
abbrev pub behind : List Value → List Value → Result (List Value) Trap
behind before values = Ok (before ++ values)

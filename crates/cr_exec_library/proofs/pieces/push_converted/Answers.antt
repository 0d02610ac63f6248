use Rattle.std.proofs.Common.{Bool, List, Err, refl, sym, subst}
use Rattle.cr_memory.specs.declared.value.Trap.TheVariants.{Undefined}
use Rattle.cr_meaning.specs.World.{then_by}
use Rattle.cr_meaning.specs.declared.value.Value.{Value}
use Rattle.cr_eval.specs.Answers.{Answers}
use Rattle.cr_exec_library.specs.Printing.{behind, of_first}
use Rattle.cr_exec_library.proofs.Printing.{none_left}
use Rattle.cr_exec_library.proofs.pieces.push_converted.Goals as goal

pub returns-in_default-values : goal.returns-in_default-values
returns-in_default-values c =
    let P : List (Bool × Value) → Type 0 = λ all. Answers (then_by (of_first c.args.store.now c.args.piece.now all) (behind c.args.out.now.items)) (Err (Undefined 16)) in
    subst P (sym (none_left c.args.texts.now c.args.values.now c.in_default-values.len_below)) (record { says = refl })

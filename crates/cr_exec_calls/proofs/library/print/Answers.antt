use Rattle.std.proofs.Common.{List, sym, subst}
use Rattle.cr_exec_library.specs.Printing.{called}
use Rattle.cr_eval.specs.Answers.{Answers}
use Rattle.cr_eval.specs.Table.{program_of}
use Rattle.cr_meaning.specs.Library.{printf_of}
use Rattle.cr_meaning.specs.declared.value.Value.{Value}
use Rattle.cr_exec_world.specs.Worlds.{world_of}
use Rattle.cr_exec_calls.proofs.library.print.Goals as goal

pub returns-in-Some-clause-value : goal.returns-in-Some-clause-value
returns-in-Some-clause-value c =
    let P : List Value → Type 0 = λ given. Answers (printf_of (program_of c.args.table.now) (world_of c.args.world.now) c.args.texts.now given) (called c.printf.new.output.items c.printf.result) in
    subst P (sym c.in-Some.ensures.cases.0) (c.printf.ensures (world_of c.args.world.now))

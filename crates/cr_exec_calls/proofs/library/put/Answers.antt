use Rattle.std.proofs.Common.{List, sym, subst, arith}
use Rattle.cr_exec_library.specs.Printing.{called}
use Rattle.cr_eval.specs.Answers.{Answers}
use Rattle.cr_eval.specs.Table.{program_of}
use Rattle.cr_meaning.specs.Library.{putchar_of}
use Rattle.cr_meaning.specs.declared.value.Value.{Value}
use Rattle.cr_exec_world.specs.Worlds.{world_of}
use Rattle.cr_exec_calls.proofs.Printing.{single}
use Rattle.cr_exec_calls.proofs.library.put.Goals as goal

pub returns-in-len1-clause-value : goal.returns-in-len1-clause-value
returns-in-len1-clause-value c =
    let P : List Value → Type 0 = λ given. Answers (putchar_of (program_of c.args.table.now) (world_of c.args.world.now) given) (called c.putchar.new.output.items c.putchar.result) in
    subst P (sym (single c.args.given.now c.value-item.result (omega (arith, c.in-len1.len_at_least, c.in-len1.len_below)) c.value-item.is)) (c.putchar.ensures (world_of c.args.world.now))

use Rattle.std.proofs.Common.{sym, subst}
use Rattle.cr_meaning.specs.World.{World}
use Rattle.cr_meaning.specs.Library.{put_out}
use Rattle.cr_meaning.specs.declared.value.Value.{Value}
use Rattle.cr_eval.specs.Answers.{Answers}
use Rattle.cr_eval.specs.Table.{program_of}
use Rattle.cr_exec_library.specs.Printing.{called}
use Rattle.cr_exec_library.proofs.calls.put_counted.Goals as goal

pub returns : goal.returns
returns c = λ world.
    let w : World = record world { output = c.args.output.now.items } in
    let P : Value → Type 0 = λ v. Answers (put_out (program_of c.args.table.now) w c.args.bytes.now v) (called c.put_out.new.output.items c.put_out.result) in
    subst P c.count_of.ensures (c.put_out.ensures w)

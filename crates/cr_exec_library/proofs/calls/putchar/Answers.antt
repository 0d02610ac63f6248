use Rattle.cr_meaning.specs.World.{World}
use Rattle.cr_eval.specs.Table.{program_of}
use Rattle.cr_exec_library.proofs.Printing.{putchar_from}
use Rattle.cr_exec_library.proofs.calls.putchar.Goals as goal

pub returns-in-Ok : goal.returns-in-Ok
returns-in-Ok c = λ world.
    let w : World = record world { output = c.args.output.now.items } in
    putchar_from (program_of c.args.table.now) w c.args.value.now c.in-Ok.byte _ c.in-Ok.ensures (c.put_byte.ensures w)

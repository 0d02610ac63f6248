use Rattle.cr_meaning.specs.World.{World}
use Rattle.cr_eval.specs.Table.{program_of}
use Rattle.cr_exec_library.proofs.Printing.{printed_out}
use Rattle.cr_exec_library.proofs.calls.print.Goals as goal

pub returns-in-Ok : goal.returns-in-Ok
returns-in-Ok c = λ world.
    let w : World = record world { memory = c.args.store.now; output = c.args.output.now.items } in
    printed_out (program_of c.args.table.now) w _ c.in-Ok.bytes.items c.deref.result.now _ c.in-Ok.ensures c.deref.ensures.value (c.put_counted.ensures w)

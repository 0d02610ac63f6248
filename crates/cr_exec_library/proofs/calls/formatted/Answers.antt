use Rattle.std.specs.List.{zip}
use Rattle.cr_meaning.specs.World.{World}
use Rattle.cr_meaning.specs.Library.{pieces_of}
use Rattle.cr_eval.specs.Table.{program_of}
use Rattle.cr_exec_library.proofs.Printing.{formatted_from}
use Rattle.cr_exec_library.proofs.calls.formatted.Goals as goal

pub returns-in-Ok : goal.returns-in-Ok
returns-in-Ok c = λ world.
    let w : World = record world { memory = c.args.store.now; output = c.args.output.now.items } in
    formatted_from (program_of c.args.table.now) w (zip c.args.texts.now c.args.values.now) (pieces_of c.args.format.now) c.in-Ok.pieces.items c.deref.result.now _
    c.in-Ok.ensures c.deref.ensures.value (c.print.ensures w)

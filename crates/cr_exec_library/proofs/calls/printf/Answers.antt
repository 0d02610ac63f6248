use Rattle.std.proofs.Common.{sym, ◌∙◌}
use Rattle.cr_meaning.specs.World.{World}
use Rattle.cr_eval.specs.Table.{program_of}
use Rattle.cr_exec_library.proofs.Printing.{printf_from}
use Rattle.cr_exec_library.proofs.calls.printf.Goals as goal

pub returns-in-Ok-text : goal.returns-in-Ok-text
returns-in-Ok-text c = λ world.
    let w : World = record world { memory = c.args.store.now; output = c.args.output.now.items } in
    printf_from (program_of c.args.table.now) w c.args.texts.now c.args.format.now c.args.values.now c.in-Ok.at c.in-Ok-text.bytes.items c.deref.result.now _
    (sym c.in-Ok.ensures) (sym c.misfits.ensures ∙ c.if-misfits.false) (sym c.any_nothing.ensures ∙ c.if-any_nothing.false) c.in-Ok-text.ensures c.deref.ensures.value
    (c.formatted.ensures w)

use Rattle.std.proofs.Common.{map, ap, sym, ◌∙◌}
use Rattle.cr_memory.specs.Memory.{zero_of}
use Rattle.cr_memory.specs.Access.{with_cells}
use Rattle.cr_memory.proofs.Repeating.{map-repeated}
use Rattle.cr_sequence.specs.Kept.{repeated}
use Rattle.cr_exec_world.proofs.cells.blank_large.Goals as goal

pub returns-in-Ok-clause-done : goal.returns-in-Ok-clause-done
returns-in-Ok-clause-done c = λ e.
    let one = c.parts-times.result.0.now in
    let times = c.parts-times.result.1 in
    c.refill.ensures.begun e
    ∙ ap (λ cells. with_cells c.args.store.now c.args.object 0 cells)
    (ap (repeated times) c.in-Ok.ensures ∙ sym (map-repeated (λ own. zero_of own.0) times one) ∙ ap (map (λ own. zero_of own.0)) c.parts-times.ensures)

use Rattle.std.proofs.Common.{◌≡◌, map, ap, sym, subst, ◌∙◌, IfOk}
use Rattle.cr_memory.specs.Memory.{zero_of}
use Rattle.cr_memory.proofs.Repeating.{map-repeated}
use Rattle.cr_sequence.specs.Kept.{repeated}
use Rattle.cr_exec_world.proofs.cells.zeros.Goals as goal

pub returns : goal.returns
returns c =
    let one = c.parts-times.result.0.now in
    let times = c.parts-times.result.1 in
    subst (λ xs. IfOk c.spelled-2.result (λ all. all.items ≡ xs))
    (c.in_ok-new.ensures ∙ ap (repeated times) c.in_ok-zeros_of.ensures ∙ sym (map-repeated (λ own. zero_of own.0) times one)
    ∙ ap (map (λ own. zero_of own.0)) c.parts-times.ensures)
    c.spelled-2.ensures

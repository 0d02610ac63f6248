use Rattle.std.proofs.Common.{◌≡◌, map, ap, sym, subst, ◌∙◌, IfOk}
use Rattle.cr_sequence.specs.Kept.{repeated}
use Rattle.cr_memory.proofs.Repeating.{map-repeated}
use Rattle.cr_exec_shapes.proofs.objects.kinds_of.Goals as goal

pub returns : goal.returns
returns c =
    let one = c.parts-times.result.0.now in
    let times = c.parts-times.result.1 in
    subst (λ xs. IfOk c.new.result (λ all. all ≡ xs))
    (ap (repeated times) c.in_ok-kinds_in.ensures ∙ sym (map-repeated (λ own. own.0) times one)
    ∙ ap (map (λ own. own.0)) (c.parts-times.ensures ∙ c.in_ok-cells.ensures))
    c.new.ensures

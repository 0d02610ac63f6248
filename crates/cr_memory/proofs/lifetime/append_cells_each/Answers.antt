use Rattle.std.proofs.Common.{◌++◌, map, sym, ap, ◌∙◌}
use Rattle.std.proofs.lemmas.List.{map-append}
use Rattle.cr_sequence.specs.Kept.{repeated}
use Rattle.cr_sequence.proofs.Showing.{repeated_more}
use Rattle.cr_memory.specs.Memory.{first_cell}
use Rattle.cr_memory.proofs.Repeating.{joined}
use Rattle.cr_memory.proofs.lifetime.append_cells_each.Goals as goal

pub loop-turn-preserved : goal.loop-turn-preserved
loop-turn-preserved c =
    let cells = c.args.cells.now in
    let one = c.args.shape.now in
    let so_many = repeated c.loop-turn._turn one in
    let first = first_cell c.args.zero in
    c.in_ok-push_cells.ensures.all ∙ ap (λ xs. xs ++ map first one) c.loop-turn.invariant
    ∙ joined cells (map first so_many) (map first one)
    ∙ ap (λ xs. cells ++ xs) (sym (map-append first so_many one) ∙ ap (map first) (repeated_more c.loop-turn._turn one))

use Rattle.std.proofs.Common.{◌++◌, ap, ◌∙◌}
use Rattle.cr_sequence.specs.Kept.{repeated}
use Rattle.cr_sequence.proofs.Showing.{repeated_more}
use Rattle.cr_memory.proofs.Repeating.{joined}
use Rattle.cr_memory.proofs.lifetime.append_shape_each.Goals as goal

pub loop-turn-preserved : goal.loop-turn-preserved
loop-turn-preserved c =
    let shapes = c.args.shapes.now in
    let one = c.args.shape.now in
    let so_many = repeated c.loop-turn._turn one in
    c.in_ok-push_shape.ensures.all ∙ ap (λ xs. xs ++ one) c.loop-turn.invariant
    ∙ joined shapes so_many one ∙ ap (λ xs. shapes ++ xs) (repeated_more c.loop-turn._turn one)

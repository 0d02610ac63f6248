use Rattle.std.proofs.Common.{◌≡◌, ◌++◌, ◌∷◌, [], map, ap, sym, ◌∙◌}
use Rattle.cr_sequence.specs.Kept.{repeated}
use Rattle.cr_memory.specs.declared.value.Cell.TheVariants.{Unset}
use Rattle.cr_memory.specs.Memory.{first_cell}
use Rattle.cr_memory.proofs.Entering.{each_unset}
use Rattle.cr_memory.proofs.lifetime.append_unset.Goals as goal

pub returns-clause-all : goal.returns-clause-all
returns-clause-all c = λ e.
    let all = repeated c.args.times c.args.shape.now in
    c.extend_plain_with.ensures.extended e
    ∙ ap (λ cells. c.args.cells.now ++ cells)
    (ap (λ n. repeated n (Unset ∷ [])) (c.cells_in.ensures.exact c.requires.few) ∙ each_unset all ∙ ap (λ zero. map (first_cell zero) all) (sym c.if-zero.false))

use Rattle.std.proofs.Common.{◌≡◌, ap, subst, ◌∙◌, IfOk}
use Rattle.cr_check_types.specs.Types.{type_at}
use Rattle.cr_check_types.specs.Layouts.{count_of}
use Rattle.cr_meaning_operations.specs.Shapes.{repeated}
use Rattle.cr_exec_shapes.specs.Types.{looked_up}
use Rattle.cr_exec_shapes.proofs.Parts.{cells_are, shape_is}
use Rattle.cr_exec_shapes.proofs.cells.object_cells.Goals as goal

pub returns : goal.returns
returns c =
    let t = c.args.types.now in
    let type = type_at t.shapes c.args.row in
    let shape = c.elements-elements.result.shape in
    subst (λ cells. IfOk c.elements_of.result (λ all. all ≡ cells))
    (ap (repeated (count_of type)) c.in_ok-one.ensures
    ∙ cells_are (looked_up c.args.structures.now.items) t type shape.of shape.constant shape.volatile c.elements-elements.ensures.single c.elements-elements.ensures.shape
    ∙ shape_is c.args.structures.now.items t type c.requires)
    (c.elements_of.ensures (count_of type) c.elements-elements.ensures.count)

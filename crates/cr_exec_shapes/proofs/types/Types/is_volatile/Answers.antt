use Rattle.std.proofs.Common.{ap, sym, ◌∙◌}
use Rattle.cr_check_types.specs.Types.{type_at}
use Rattle.cr_meaning_operations.specs.Shapes.{is_volatile}
use Rattle.cr_exec_shapes.proofs.Parts.{volatile_element, volatile_single}
use Rattle.cr_exec_shapes.proofs.types.Types.is_volatile.Goals as goal

pub returns : goal.returns
returns c =
    let shape = c.elements.result.shape in
    sym (volatile_single (type_at c.args.self.now.shapes) shape.of shape.constant shape.volatile c.elements.ensures.single)
    ∙ ap is_volatile c.elements.ensures.shape
    ∙ sym (volatile_element (type_at c.args.self.now.shapes c.args.row))

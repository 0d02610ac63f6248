use Rattle.std.proofs.Common.{◌≡◌, false, take}
use Rattle.std.specs.List.{flat_map}
use Rattle.cr_check_types.specs.Types.{type_at}
use Rattle.cr_meaning_operations.specs.Shapes.{cells_with}
use Rattle.cr_exec_shapes.specs.Types.{looked_up}
use Rattle.cr_exec_shapes.proofs.cells.structure.Given as goal

abbrev pub invariant-loop-row : goal.invariant-loop-row
invariant-loop-row l =
    l.cells.items ≡ flat_map (λ row. cells_with (looked_up l.structures.items) l.types false (type_at l.types.shapes row)) (take l.row-index l.rows)

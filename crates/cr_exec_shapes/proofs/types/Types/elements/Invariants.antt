use Rattle.std.proofs.Common.{◌≡◌}
use Rattle.cr_check_types.specs.Types.{type_at, type_of, room_of}
use Rattle.cr_check_types.specs.Layouts.{count_of, element_of}
use Rattle.cr_exec_shapes.specs.Types.{Counted}
use Rattle.cr_exec_shapes.proofs.types.Types.elements.Given as goal

abbrev pub invariant-loop-inner : goal.invariant-loop-inner
invariant-loop-inner l = record {
  count : Counted l.count (count_of (type_of (type_at l.self.shapes) l.inner)) (count_of (type_at l.self.shapes l.fn.row));
  element : element_of (type_of (type_at l.self.shapes) l.inner) ≡ element_of (type_at l.self.shapes l.fn.row);
}

abbrev pub decreases-loop-inner : goal.decreases-loop-inner
decreases-loop-inner l = room_of l.inner

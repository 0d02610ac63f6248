use Rattle.std.proofs.Common.{◌≡◌, ◌<◌, ◌*◌, ◌^◌, length}
use Rattle.cr_check_types.specs.Types.{type_at}
use Rattle.cr_check_types.specs.Layouts.{fitted, count_of, element_of}
use Rattle.cr_check_types.proofs.table.Table.elements.Given as goal

abbrev pub invariant-loop-below : goal.invariant-loop-below
invariant-loop-below l = record {
  inner : l.inner < length l.self;
  fits : l.count < 2 ^ 64;
  count : fitted (l.count * count_of (type_at l.self l.inner)) ≡ fitted (count_of (type_at l.self l.fn.row));
  element : element_of (type_at l.self l.inner) ≡ element_of (type_at l.self l.fn.row);
}

abbrev pub decreases-loop-below : goal.decreases-loop-below
decreases-loop-below l = l.inner

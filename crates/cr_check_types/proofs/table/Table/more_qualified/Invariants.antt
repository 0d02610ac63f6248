use Rattle.std.proofs.Common.{◌≡◌, ◌<◌, length}
use Rattle.cr_check_types.specs.Types.{type_at, Grows}
use Rattle.cr_check_types.specs.Relations.{turned, qualified}
use Rattle.cr_check_types.proofs.table.Table.more_qualified.Given as goal

abbrev pub invariant-loop-below : goal.invariant-loop-below
invariant-loop-below l = record {
  inner : l.inner < length l.self;
  levels : l.levels < length l.self;
  grows : Grows l.fn.self l.self;
  same : turned (type_at l.self l.levels) (qualified l.constant l.volatile (type_at l.self l.inner)) ≡ qualified l.constant l.volatile (type_at l.fn.self l.fn.row);
}

abbrev pub decreases-loop-below : goal.decreases-loop-below
decreases-loop-below l = l.inner

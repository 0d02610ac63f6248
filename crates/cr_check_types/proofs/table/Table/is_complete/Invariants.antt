use Rattle.std.proofs.Common.{◌≡◌, ◌<◌, length}
use Rattle.cr_check_types.specs.Types.{type_at}
use Rattle.cr_check_types.specs.Relations.{is_complete_at}
use Rattle.cr_check_types.proofs.table.Table.is_complete.Given as goal

abbrev pub invariant-loop-below : goal.invariant-loop-below
invariant-loop-below l = record {
  inner : l.inner < length l.self;
  same : is_complete_at l.nodes l.at (type_at l.self l.inner) ≡ is_complete_at l.nodes l.at (type_at l.self l.fn.row);
}

abbrev pub decreases-loop-below : goal.decreases-loop-below
decreases-loop-below l = l.inner

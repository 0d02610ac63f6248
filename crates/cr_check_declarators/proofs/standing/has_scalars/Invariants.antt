use Rattle.std.proofs.Common.{◌≡◌, ◌<◌, length}
use Rattle.cr_check_types.specs.Types.{type_at}
use Rattle.cr_check_declarators.specs.Specifiers.{has_scalars}
use Rattle.cr_check_declarators.proofs.standing.has_scalars.Given as goal

abbrev pub invariant-loop-below : goal.invariant-loop-below
invariant-loop-below l = record {
  inner : l.inner < length l.table;
  same : has_scalars (type_at l.table l.inner) ≡ has_scalars (type_at l.table l.fn.row);
}

abbrev pub decreases-loop-below : goal.decreases-loop-below
decreases-loop-below l = l.inner

use Rattle.std.proofs.Common.{◌≡◌, ◌<◌, length, false, slice_index_or}
use Rattle.cr_check_types.specs.Types.{type_at}
use Rattle.cr_check_declarators.specs.Structures.{holds_constant}
use Rattle.cr_check_declarators.proofs.structures.holds_constant.Given as goal

abbrev pub invariant-loop-below : goal.invariant-loop-below
invariant-loop-below l = record {
  inner : l.inner < length l.table;
  same : holds_constant (λ n. slice_index_or l.fixed n false) (type_at l.table l.inner) ≡ holds_constant (λ n. slice_index_or l.fixed n false) (type_at l.table l.fn.row);
}

abbrev pub decreases-loop-below : goal.decreases-loop-below
decreases-loop-below l = l.inner

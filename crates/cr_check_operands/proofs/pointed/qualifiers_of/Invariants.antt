use Rattle.std.proofs.Common.{◌≡◌, ◌<◌, length}
use Rattle.cr_check_types.specs.Types.{type_at}
use Rattle.cr_check_operands.specs.Rules.{constant_in, volatile_in}
use Rattle.cr_check_operands.proofs.pointed.qualifiers_of.Given as goal

abbrev pub invariant-loop-below : goal.invariant-loop-below
invariant-loop-below l = record {
  inner : l.inner < length l.table;
  constant : constant_in (type_at l.table l.inner) ≡ constant_in (type_at l.table l.fn.row);
  volatile : volatile_in (type_at l.table l.inner) ≡ volatile_in (type_at l.table l.fn.row);
}

abbrev pub decreases-loop-below : goal.decreases-loop-below
decreases-loop-below l = l.inner

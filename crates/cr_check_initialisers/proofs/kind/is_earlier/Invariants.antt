use Rattle.std.proofs.Common.{◌≡◌}
use Rattle.cr_check_types.specs.Types.{type_at}
use Rattle.cr_check_initialisers.specs.Places.{is_earlier}
use Rattle.cr_check_initialisers.proofs.kind.is_earlier.Given as goal

abbrev pub invariant-loop-other : goal.invariant-loop-other
invariant-loop-other l = is_earlier l.structure (type_at l.source.table.now l.inner) ≡ is_earlier l.structure (type_at l.source.table.now l.fn.row)

abbrev pub decreases-loop-other : goal.decreases-loop-other
decreases-loop-other l = l.inner

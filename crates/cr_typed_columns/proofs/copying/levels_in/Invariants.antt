use Rattle.std.proofs.Common.{◌≡◌}
use Rattle.cr_check_types.specs.Types.{type_at}
use Rattle.cr_typed_columns.specs.Levels.{wrapped}
use Rattle.cr_typed_columns.proofs.copying.levels_in.Given as goal

abbrev pub invariant-loop-level : goal.invariant-loop-level
invariant-loop-level l = type_at l.from l.row ≡ wrapped l.list.items (type_at l.from l.inner)

abbrev pub decreases-loop-level : goal.decreases-loop-level
decreases-loop-level l = l.inner

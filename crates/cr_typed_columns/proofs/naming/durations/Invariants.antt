use Rattle.std.proofs.Common.{◌≡◌}
use Rattle.cr_typed_columns.specs.Names.{duration_of}
use Rattle.cr_typed_columns.specs.Rows.{listed}
use Rattle.cr_typed_columns.proofs.naming.durations.Given as goal

abbrev pub invariant-loop-at : goal.invariant-loop-at
invariant-loop-at l = l.durations ≡ listed (duration_of l.unit.nodes l.checked) l.at

use Rattle.std.proofs.Common.{◌≡◌}
use Rattle.cr_typed_columns.specs.Columns.{layout_at}
use Rattle.cr_typed_columns.specs.Rows.{listed}
use Rattle.cr_typed_columns.proofs.assembling.layouts.Given as goal

abbrev pub invariant-loop-at : goal.invariant-loop-at
invariant-loop-at l = l.layouts ≡ listed (layout_at l.checked) l.at

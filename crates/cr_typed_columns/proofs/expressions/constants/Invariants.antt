use Rattle.std.proofs.Common.{◌≡◌}
use Rattle.cr_typed_columns.specs.Expressions.{constant_of}
use Rattle.cr_typed_columns.specs.Rows.{listed}
use Rattle.cr_typed_columns.proofs.expressions.constants.Given as goal

abbrev pub invariant-loop-at : goal.invariant-loop-at
invariant-loop-at l = l.constants ≡ listed (constant_of l.checked) l.at

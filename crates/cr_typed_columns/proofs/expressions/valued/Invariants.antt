use Rattle.std.proofs.Common.{◌≡◌}
use Rattle.cr_typed_columns.specs.Expressions.{valued_of}
use Rattle.cr_typed_columns.specs.Rows.{listed}
use Rattle.cr_typed_columns.proofs.expressions.valued.Given as goal

abbrev pub invariant-loop-at : goal.invariant-loop-at
invariant-loop-at l = l.valued ≡ listed (valued_of l.nodes l.checked) l.at

use Rattle.std.proofs.Common.{◌≡◌}
use Rattle.cr_typed_columns.specs.Expressions.{chosen_of}
use Rattle.cr_typed_columns.specs.Rows.{listed}
use Rattle.cr_typed_columns.proofs.expressions.chosen.Given as goal

abbrev pub invariant-loop-at : goal.invariant-loop-at
invariant-loop-at l = l.chosen ≡ listed (chosen_of l.nodes l.checked) l.at

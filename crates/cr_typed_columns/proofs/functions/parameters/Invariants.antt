use Rattle.std.proofs.Common.{◌≡◌}
use Rattle.cr_typed_columns.specs.Reading.{parsed_of}
use Rattle.cr_typed_columns.specs.Functions.{parameters_of}
use Rattle.cr_typed_columns.specs.Rows.{listed}
use Rattle.cr_typed_columns.proofs.functions.parameters.Given as goal

abbrev pub invariant-loop-at : goal.invariant-loop-at
invariant-loop-at l = l.parameters ≡ listed (parameters_of (parsed_of l.unit) l.checked) l.at

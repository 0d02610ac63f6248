use Rattle.std.proofs.Common.{◌≡◌}
use Rattle.cr_typed_columns.specs.Reading.{parsed_of}
use Rattle.cr_typed_columns.specs.Names.{ref_of}
use Rattle.cr_typed_columns.specs.Rows.{listed}
use Rattle.cr_typed_columns.proofs.naming.refs.Given as goal

abbrev pub invariant-loop-at : goal.invariant-loop-at
invariant-loop-at l = l.refs ≡ listed (ref_of (parsed_of l.unit) l.checked) l.at

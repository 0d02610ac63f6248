use Rattle.std.proofs.Common.{◌≡◌, map}
use Rattle.cr_check_types.specs.Types.{type_at}
use Rattle.cr_typed_columns.specs.Reading.{parsed_of}
use Rattle.cr_typed_columns.specs.Names.{named_of}
use Rattle.cr_typed_columns.specs.Rows.{listed, type_in}
use Rattle.cr_typed_columns.proofs.naming.named.Given as goal

abbrev pub invariant-loop-at : goal.invariant-loop-at
invariant-loop-at l = map (type_in (type_at l.checked.table.now)) l.named.items ≡ listed (named_of (parsed_of l.unit) l.checked) l.at

use Rattle.std.proofs.Common.{◌≡◌}
use Rattle.cr_typed_columns.specs.Reading.{parsed_of}
use Rattle.cr_typed_columns.specs.Functions.{main_below}
use Rattle.cr_typed_columns.proofs.functions.main_of.Given as goal

abbrev pub invariant-loop-at : goal.invariant-loop-at
invariant-loop-at l = l.main ≡ main_below l.file (parsed_of l.unit) l.at

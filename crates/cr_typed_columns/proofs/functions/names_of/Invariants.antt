use Rattle.std.proofs.Common.{◌≡◌, take}
use Rattle.std.specs.List.{flat_map}
use Rattle.std.specs.Prelude.{option_to_list}
use Rattle.cr_typed_columns.specs.Reading.{parsed_of}
use Rattle.cr_typed_columns.specs.Functions.{parameter_name}
use Rattle.cr_typed_columns.proofs.functions.names_of.Given as goal

abbrev pub invariant-loop-parameter : goal.invariant-loop-parameter
invariant-loop-parameter l = l.names.items ≡ flat_map (λ p. option_to_list (parameter_name (parsed_of l.unit) p)) (take l.parameter-index l.list)

use Rattle.std.proofs.Common.{◌≡◌, map, take}
use Rattle.pass_inline.specs.Spelled.{parameter_number}
use Rattle.pass_inline.proofs.spelled.parameter_numbers.Given as goal

abbrev pub invariant-loop-parameter : goal.invariant-loop-parameter
invariant-loop-parameter l = l.numbers.items ≡ map (parameter_number l.nodes l.names) (take l.parameter-index l.parameters)

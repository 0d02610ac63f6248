use Rattle.std.proofs.Common.{◌≡◌, map, take}
use Rattle.cr_meaning_operations.specs.Operations.{parameter_of}
use Rattle.cr_exec_table.proofs.calls.parameters.Given as goal

abbrev pub invariant-loop-name : goal.invariant-loop-name
invariant-loop-name l = l.parameters.items ≡ map (parameter_of l.types) (take l.name-index l.name-items)

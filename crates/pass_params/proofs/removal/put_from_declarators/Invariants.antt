use Rattle.std.proofs.Common.{◌≡◌, ◌++◌, take}
use Rattle.std.specs.List.{flat_map}
use Rattle.pass_params.specs.Parameters.{from_declarator}
use Rattle.pass_params.proofs.removal.put_from_declarators.Given as goal

abbrev pub invariant-loop-function : goal.invariant-loop-function
invariant-loop-function l = l.changes.items ≡ l.fn.changes.items ++ flat_map (from_declarator l.tokens l.nodes l.names l.token l.at) (take l.function-index l.functions)

use Rattle.std.proofs.Common.{◌≡◌, ◌++◌, take}
use Rattle.std.specs.List.{flat_map}
use Rattle.pass_params.specs.Parameters.{from_call}
use Rattle.pass_params.proofs.removal.put_from_calls.Given as goal

abbrev pub invariant-loop-call : goal.invariant-loop-call
invariant-loop-call l = l.changes.items ≡ l.fn.changes.items ++ flat_map (from_call l.tokens l.nodes l.names l.token l.at) (take l.call-index l.calls)

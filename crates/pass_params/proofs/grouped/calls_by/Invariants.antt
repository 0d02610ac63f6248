use Rattle.std.proofs.Common.{take}
use Rattle.pass_params.specs.Grouped.{AreGrouped, call_number}
use Rattle.pass_params.proofs.grouped.calls_by.Given as goal

abbrev pub invariant-loop-call : goal.invariant-loop-call
invariant-loop-call l = AreGrouped (call_number l.nodes l.names) (take l.call-index l.calls) l.rows.items

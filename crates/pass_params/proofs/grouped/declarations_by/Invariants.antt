use Rattle.std.proofs.Common.{take}
use Rattle.pass_params.specs.Grouped.{AreGrouped, function_number}
use Rattle.pass_params.proofs.grouped.declarations_by.Given as goal

abbrev pub invariant-loop-function : goal.invariant-loop-function
invariant-loop-function l = AreGrouped (function_number l.nodes l.names) (take l.function-index l.functions) l.rows.items

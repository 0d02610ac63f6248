use Rattle.std.proofs.Common.{◌≡◌, map, take}
use Rattle.cr_meaning_operations.specs.Operations.{line_of}
use Rattle.cr_exec_table.proofs.op.lines.Given as goal

abbrev pub invariant-loop-put : goal.invariant-loop-put
invariant-loop-put l = l.lines.items ≡ map (line_of l.types) (take l.put-index l.plan)

use Rattle.std.proofs.Common.{◌≡◌, take}
use Rattle.cr_meaning_operations.specs.Operations.{ops_from}
use Rattle.cr_exec_table.proofs.program.ops.Given as goal

abbrev pub invariant-loop-node : goal.invariant-loop-node
invariant-loop-node l = l.ops.items ≡ ops_from l.nodes 0 (take l.node l.nodes.nodes)

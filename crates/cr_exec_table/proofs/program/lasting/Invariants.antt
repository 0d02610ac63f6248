use Rattle.std.proofs.Common.{◌≡◌, take}
use Rattle.cr_meaning_operations.specs.Operations.{nodes_from, is_lasting}
use Rattle.cr_exec_table.proofs.program.lasting.Given as goal

abbrev pub invariant-loop-node : goal.invariant-loop-node
invariant-loop-node l = l.found.items ≡ nodes_from (is_lasting l.nodes) 0 (take l.node l.nodes.nodes)

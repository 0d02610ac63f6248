use Rattle.std.proofs.Common.{◌≡◌, take}
use Rattle.cr_meaning_operations.specs.Operations.{nodes_from, is_static_initialiser}
use Rattle.cr_exec_table.proofs.program.static_initialisers.Given as goal

abbrev pub invariant-loop-node : goal.invariant-loop-node
invariant-loop-node l = l.found.items ≡ nodes_from (is_static_initialiser l.nodes) 0 (take l.node l.nodes.nodes)

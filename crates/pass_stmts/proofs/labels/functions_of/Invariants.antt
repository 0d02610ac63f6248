use Rattle.std.proofs.Common.{◌≡◌, ◌++◌, drop}
use Rattle.pass_stmts.specs.Labels.{functions_from, functions_of}
use Rattle.pass_stmts.proofs.labels.functions_of.Given as goal

abbrev pub invariant-loop-node : goal.invariant-loop-node
invariant-loop-node l = l.functions.items ++ functions_from l.count (drop l.node-index l.nodes) ≡ functions_of l.nodes

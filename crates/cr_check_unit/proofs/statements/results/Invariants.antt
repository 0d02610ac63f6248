use Rattle.std.proofs.Common.{◌≡◌, map, take}
use Rattle.cr_check_unit.specs.Statements.{result_in}
use Rattle.cr_check_unit.proofs.statements.results.Given as goal

abbrev pub invariant-loop-node : goal.invariant-loop-node
invariant-loop-node l = l.rows.items ≡ map (result_in l.named) (take l.node-index l.nodes)

use Rattle.std.proofs.Common.{◌≡◌, length}
use Rattle.cr_meaning.specs.World.{then_by}
use Rattle.cr_meaning.specs.Nodes.{converted_all}
use Rattle.cr_exec_calls.specs.Arguments.{values_in}
use Rattle.cr_exec_calls.proofs.Converting.{behind}
use Rattle.cr_exec_calls.proofs.convert.convert_each.Given as goal

abbrev pub invariant-loop-parameter : goal.invariant-loop-parameter
invariant-loop-parameter l = then_by (converted_all l.store l.left (values_in l.rest)) (behind l.values.items) ≡ converted_all l.fn.store l.parameters (values_in l.done)

abbrev pub decreases-loop-parameter : goal.decreases-loop-parameter
decreases-loop-parameter l = length l.left

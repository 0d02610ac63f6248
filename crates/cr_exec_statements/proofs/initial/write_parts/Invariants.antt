use Rattle.std.proofs.Common.{◌≡◌, length}
use Rattle.cr_meaning.specs.Nodes.{with_parts}
use Rattle.cr_exec_statements.proofs.initial.write_parts.Given as goal

abbrev pub invariant-loop-rest : goal.invariant-loop-rest
invariant-loop-rest l = with_parts l.store l.object l.rest ≡ with_parts l.fn.store l.object l.sets

abbrev pub decreases-loop-rest : goal.decreases-loop-rest
decreases-loop-rest l = length l.rest

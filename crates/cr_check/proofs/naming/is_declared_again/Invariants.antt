use Rattle.cr_check.specs.NameFaults.{NoneBefore}
use Rattle.cr_check.proofs.naming.is_declared_again.Given as goal

-- no node looked at is one
abbrev pub invariant-loop-at : goal.invariant-loop-at
invariant-loop-at l = NoneBefore l.nodes l.names l.before l.at

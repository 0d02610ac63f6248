use Rattle.std.proofs.Common.{◌≡◌}
use Rattle.cr_scopes_events.specs.Declarators.{declarator_of, derived}
use Rattle.cr_scopes_events.proofs.declarator.declared_by.Given as goal

abbrev pub invariant-loop-declarator : goal.invariant-loop-declarator
invariant-loop-declarator l = declarator_of l.nodes l.fn.at ≡ derived l.next (declarator_of l.nodes l.inner)

abbrev pub decreases-loop-declarator : goal.decreases-loop-declarator
decreases-loop-declarator l = l.inner

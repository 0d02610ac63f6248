use Rattle.cr_scopes.specs.Resolved.{past_of}
use Rattle.cr_scopes.specs.States.{name_in}
use Rattle.cr_scopes_bindings.proofs.Looking.{IsKept}
use Rattle.cr_scopes_bindings.proofs.visible.visible_by.Given as goal

abbrev pub invariant-loop-event : goal.invariant-loop-event
invariant-loop-event l = IsKept (name_in l.spellings) (past_of l.events l.event-index) l.tokens l.scoped l.named.items l.visible.items

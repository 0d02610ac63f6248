use Rattle.std.proofs.Common.{◌≡◌, [], ◌++◌, length}
use Rattle.cr_scopes_events.specs.Events.{events_at, to_come}
use Rattle.cr_scopes_events.proofs.walk.walked.Given as goal

abbrev pub invariant-loop-step : goal.invariant-loop-step
invariant-loop-step l = record {
  steps : l.steps.items ≡ [];
  same : l.events.items ++ to_come (events_at l.tokens l.nodes) l.left.items ≡ to_come (events_at l.tokens l.nodes) l.fn.left.items;
}

abbrev pub decreases-loop-step : goal.decreases-loop-step
decreases-loop-step l = length (to_come (events_at l.tokens l.nodes) l.left.items)

use Rattle.std.proofs.Common.{◌≡◌, ℕ, List, [], ◌++◌, length}
use Rattle.std.specs.List.{flat_map}
use Rattle.cr_scopes_events.specs.declared.event.Event.{Event}
use Rattle.cr_scopes_events.specs.Values.{before}
use Rattle.cr_scopes_events.specs.Events.{events_by, to_come}
use Rattle.cr_scopes_events.proofs.walk.put_off.Given as goal

abbrev pub invariant-loop-step : goal.invariant-loop-step
invariant-loop-step l = (at : ℕ → List Event) → flat_map (events_by (before [] l.bound at)) l.steps.items ++ to_come at l.left.items
    ≡ flat_map (events_by (before [] l.bound at)) l.initial.steps.items ++ to_come at l.initial.left.items

abbrev pub decreases-loop-step : goal.decreases-loop-step
decreases-loop-step l = length l.steps.items

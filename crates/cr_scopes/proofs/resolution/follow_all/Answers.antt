use Rattle.std.proofs.Common.{◌∙◌, ap}
use Rattle.cr_scopes.specs.Resolved.{fault_at}
use Rattle.cr_scopes.specs.States.{name_in}
use Rattle.cr_scopes.proofs.Ended.{none_yet, next_state, next_least}
use Rattle.cr_scopes.proofs.resolution.follow_all.Goals as goal

pub loop-at-init : goal.loop-at-init
loop-at-init c = record {
  count = c.in_ok-state.ensures.count;
  state = c.in_ok-state.ensures.state (name_in c.args.names.now.items);
  fault = none_yet (fault_at (name_in c.args.names.now.items) c.args.events.now.items);
}

pub loop-at-preserved : goal.loop-at-preserved
loop-at-preserved c =
    let h = c.loop-at.invariant in
    record {
      count = c.in_ok-follow.ensures.count ∙ h.count;
      state = next_state (name_in c.args.names.now.items) (name_in c.as_slice.result.now) c.args.events.now.items c.loop-at.at c.event_at.result
          c.loop-at.state c.follow.new.state (ap name_in c.as_slice.ensures.value) c.event_at.ensures c.in_ok-follow.ensures.state h.state;
      fault = next_least (name_in c.args.names.now.items) (name_in c.as_slice.result.now) c.args.events.now.items c.loop-at.at c.event_at.result
          c.loop-at.state c.loop-at.fault c.in_ok-follow.field-0 c.lesser-fault.result (ap name_in c.as_slice.ensures.value) c.event_at.ensures
          c.in_ok-follow.ensures.fault c.lesser-fault.ensures h.state h.fault;
    }

use Rattle.std.proofs.Common.{◌≡◌, length}
use Rattle.cr_scopes.specs.Resolved.{past_of, fault_at}
use Rattle.cr_scopes.specs.States.{name_in, IsState, IsLeast}
use Rattle.cr_scopes.proofs.resolution.follow_all.Given as goal

abbrev pub invariant-loop-at : goal.invariant-loop-at
invariant-loop-at l = record {
  count : length l.state.told.items ≡ l.count;
  state : IsState (name_in l.names.items) (past_of l.events.items l.at) l.state;
  fault : IsLeast (fault_at (name_in l.names.items) l.events.items) l.at l.fault;
}

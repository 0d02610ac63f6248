use Rattle.std.proofs.Common.{◌≡◌, take}
use Rattle.cr_core.specs.State.{start, IsSoundState}
use Rattle.cr_core.specs.Machine.{Runs}
use Rattle.cr_core.specs.Core.{state_of}
use Rattle.cr_core.proofs.machine.run.Given as goal

abbrev pub invariant-loop-event : goal.invariant-loop-event
invariant-loop-event l =
    Runs (start l.fn.len l.fn.workers) (take l.event-index l.events) (state_of l.core) × IsSoundState (state_of l.core) × (l.core.len ≡ l.fn.len)

-- The state that a `Core` holds.
use Rattle.cr_core.specs.declared.machine.Core.{Core}
use Rattle.cr_core.specs.State.{State}

abbrev pub state_of : Core → State
state_of core = record { len = core.len; next = core.next; least = core.least; lists = core.lists.items }

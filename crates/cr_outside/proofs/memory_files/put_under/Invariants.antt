use Rattle.std.proofs.Common.{◌≡◌, drop, map}
use Rattle.cr_outside.specs.MemFiles.{event_of, put_last}
use Rattle.cr_outside.proofs.memory_files.put_under.Given as goal

-- what the events from here on have put is what all have
abbrev pub invariant-loop-event : goal.invariant-loop-event
invariant-loop-event l = put_last (map event_of (drop l.event-index l.events)) l.name ≡ put_last (map event_of l.events) l.name

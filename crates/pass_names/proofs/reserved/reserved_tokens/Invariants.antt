use Rattle.std.proofs.Common.{◌≡◌, take}
use Rattle.std.specs.List.{flat_map}
use Rattle.pass_names.specs.Reserved.{reserved_in}
use Rattle.pass_names.proofs.reserved.reserved_tokens.Given as goal

abbrev pub invariant-loop-event : goal.invariant-loop-event
invariant-loop-event l = l.found.items ≡ flat_map (reserved_in l.file l.tokens l.library) (take l.event-index l.events)

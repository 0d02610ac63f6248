use Rattle.std.proofs.Common.{◌≡◌, ◌++◌, take}
use Rattle.std.specs.List.{flat_map}
use Rattle.cr_scopes_events.specs.Scripts.{items_of}
use Rattle.cr_scopes_events.proofs.script.bodies.Given as goal

abbrev pub invariant-loop-part : goal.invariant-loop-part
invariant-loop-part l = l.steps.items ≡ l.initial.steps.items ++ flat_map (items_of l.nodes) (take l.part-index l.parts)

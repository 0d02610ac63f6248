use Rattle.std.proofs.Common.{◌≡◌, ◌++◌, take}
use Rattle.std.specs.List.{flat_map}
use Rattle.cr_scopes_events.specs.Scripts.{own_parameters}
use Rattle.cr_scopes_events.proofs.script.own_parameters.Given as goal

abbrev pub invariant-loop-part : goal.invariant-loop-part
invariant-loop-part l = l.steps.items ≡ l.initial.steps.items ++ flat_map (own_parameters l.nodes) (take l.part-index l.parts)

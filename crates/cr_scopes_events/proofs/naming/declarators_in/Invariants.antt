use Rattle.std.proofs.Common.{◌≡◌, ◌++◌, take}
use Rattle.std.specs.List.{flat_map}
use Rattle.cr_scopes_events.specs.Scripts.{declarator_in}
use Rattle.cr_scopes_events.proofs.naming.declarators_in.Given as goal

abbrev pub invariant-loop-part : goal.invariant-loop-part
invariant-loop-part l = l.steps.items ≡ l.initial.steps.items ++ flat_map (declarator_in l.naming l.nodes) (take l.part-index l.parts)

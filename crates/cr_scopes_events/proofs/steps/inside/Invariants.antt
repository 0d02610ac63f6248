use Rattle.std.proofs.Common.{◌≡◌, ◌++◌, take}
use Rattle.cr_scopes_events.specs.Scripts.{inside}
use Rattle.cr_scopes_events.proofs.steps.inside.Given as goal

abbrev pub invariant-loop-part : goal.invariant-loop-part
invariant-loop-part l = l.steps.items ≡ l.initial.steps.items ++ inside (take l.part-index l.parts)

use Rattle.std.proofs.Common.{◌≡◌, ◌++◌, take}
use Rattle.cr_scopes_events.specs.Scripts.{in_scopes}
use Rattle.cr_scopes_events.proofs.steps.in_scopes.Given as goal

abbrev pub invariant-loop-part : goal.invariant-loop-part
invariant-loop-part l = l.steps.items ≡ l.initial.steps.items ++ in_scopes (take l.part-index l.parts)

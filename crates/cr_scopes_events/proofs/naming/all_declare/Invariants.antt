use Rattle.std.proofs.Common.{◌≡◌, ◌++◌, take}
use Rattle.std.specs.List.{flat_map}
use Rattle.cr_scopes_events.specs.Scripts.{declares, kind_at}
use Rattle.cr_scopes_events.proofs.naming.all_declare.Given as goal

abbrev pub invariant-loop-part : goal.invariant-loop-part
invariant-loop-part l = l.steps.items ≡ l.initial.steps.items ++ flat_map (λ part. declares l.naming l.nodes part (kind_at l.nodes part)) (take l.part-index l.parts)

use Rattle.std.proofs.Common.{◌≡◌, map, take}
use Rattle.pass_levels.specs.Level.{counted_at}
use Rattle.pass_levels.proofs.order.in_place_order.Given as goal

abbrev pub invariant-loop-place : goal.invariant-loop-place
invariant-loop-place l = l.edits ≡ map (λ place. (counted_at l.all place.2).edit) (take l.place-index l.place-items)

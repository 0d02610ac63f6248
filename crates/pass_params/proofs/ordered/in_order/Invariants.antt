use Rattle.std.proofs.Common.{◌≡◌, map, take}
use Rattle.pass_params.specs.Ordered.{change_at}
use Rattle.pass_params.proofs.ordered.in_order.Given as goal

abbrev pub invariant-loop-place : goal.invariant-loop-place
invariant-loop-place l = l.row ≡ map (λ place. change_at l.changes place.2) (take l.place-index l.place-items)

use Rattle.std.proofs.Common.{◌≡◌, [], ◌∷◌}
use Rattle.pass_levels.specs.Gathered.{gathered}
use Rattle.pass_levels.specs.Level.{place_of}
use Rattle.pass_levels.proofs.order.places.Given as goal

abbrev pub invariant-loop-at : goal.invariant-loop-at
invariant-loop-at l = l.places.items ≡ gathered (λ at. place_of l.all at ∷ []) l.at

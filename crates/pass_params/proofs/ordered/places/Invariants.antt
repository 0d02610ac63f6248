use Rattle.std.proofs.Common.{◌≡◌, [], ◌∷◌}
use Rattle.pass_levels.specs.Gathered.{gathered}
use Rattle.pass_params.specs.Ordered.{place_of}
use Rattle.pass_params.proofs.ordered.places.Given as goal

abbrev pub invariant-loop-at : goal.invariant-loop-at
invariant-loop-at l = l.places.items ≡ gathered (λ at. place_of l.changes at ∷ []) l.at

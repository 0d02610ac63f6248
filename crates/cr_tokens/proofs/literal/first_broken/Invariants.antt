use Rattle.std.proofs.Common.{ℕ, ◌≤◌, ◌<◌}
use Rattle.cr_tokens.specs.Literals.{IsBroken}
use Rattle.cr_tokens.proofs.literal.first_broken.Given as goal

abbrev pub invariant-loop-at : goal.invariant-loop-at
invariant-loop-at l = (k : ℕ) → l.from ≤ k → k < l.at → ¬ IsBroken l.file k

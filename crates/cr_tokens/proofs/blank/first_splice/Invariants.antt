use Rattle.std.proofs.Common.{ℕ, ◌≤◌, ◌<◌}
use Rattle.cr_tokens.specs.Blanks.{IsSplice}
use Rattle.cr_tokens.proofs.blank.first_splice.Given as goal

abbrev pub invariant-loop-at : goal.invariant-loop-at
invariant-loop-at l = (k : ℕ) → l.from ≤ k → k < l.at → ¬ IsSplice l.file k

use Rattle.std.proofs.Common.{ℕ, ◌≤◌, ◌<◌}
use Rattle.cr_tokens.specs.Blanks.{ClosesBlock}
use Rattle.cr_tokens.proofs.blank.block_close.Given as goal

abbrev pub invariant-loop-at : goal.invariant-loop-at
invariant-loop-at l = (k : ℕ) → l.from ≤ k → k < l.at → ¬ ClosesBlock l.file k

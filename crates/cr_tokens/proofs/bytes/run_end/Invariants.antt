use Rattle.std.proofs.Common.{ℕ, ◌≤◌, ◌<◌, slice_index, true}
use Rattle.cr_tokens.proofs.bytes.run_end.Given as goal

abbrev pub invariant-loop-at : goal.invariant-loop-at
invariant-loop-at g l = (k : ℕ) → l.from ≤ k → k < l.at → g.F.Fn.post l.class (slice_index l.file k, tt) true

use Rattle.std.proofs.Common.{◌≢◌, ◌<◌, ℕ, Some, slice_index_or}
use Rattle.cr_pool.proofs.ending.hitter.Given as goal

abbrev pub invariant-loop-i : goal.invariant-loop-i
invariant-loop-i g l = (k : ℕ) (d : _) → k < l.i → (slice_index_or l.workers k d).hit ≢ Some (l.at, l.kind)

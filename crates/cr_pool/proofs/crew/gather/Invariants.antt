use Rattle.std.proofs.Common.{◌≡◌, ◌≢◌, ◌<◌, ◌≤◌, ◌+◌, ℕ, [], length, slice_index_or, take}
use Rattle.cr_claims.specs.Pass.{IsOf, view_of, held}
use Rattle.cr_core.specs.Row.{Row}
use Rattle.cr_core.specs.Sound.{total}
use Rattle.cr_pool.specs.Crew.{IsSameButPass, Keeps, rows_of}
use Rattle.cr_pool.proofs.crew.gather.Given as goal

abbrev pub invariant-loop-worker : goal.invariant-loop-worker
invariant-loop-worker g l = record {
  stays : IsOf l.claims l.keeper;
  keeps : Keeps (length l.fn.workers) l.worker-index l.keeper;
  counts : (f : Row → ℕ) → held (view_of l.keeper) f ≡ held (view_of l.fn.keeper) f + total f (rows_of (take l.worker-index l.fn.workers));
  one : 0 < l.worker-index → slice_index_or (view_of l.keeper).joined 0 [] ≢ [];
  same : (k : ℕ) (d : _) → k < length l.fn.workers → IsSameButPass (slice_index_or l.fn.workers k d) (slice_index_or l.workers k d);
  rest : (k : ℕ) (d : _) → k < length l.fn.workers → l.worker-index ≤ k → slice_index_or l.workers k d ≡ slice_index_or l.fn.workers k d;
}

use Rattle.std.proofs.Common.{◌≡◌, ◌<◌, ℕ, [], IsSomeAnd, slice_index_or, true}
use Rattle.cr_claims.specs.Pass.{IsOf, view_of}
use Rattle.cr_pool.specs.Crew.{HaveSameJudges, HaveSameNotes, IsFresh}
use Rattle.cr_pool.proofs.crew.seat.Given as goal

abbrev pub invariant-loop-worker : goal.invariant-loop-worker
invariant-loop-worker g l = record {
  stays : IsOf l.claims l.keeper;
  keeper : (view_of l.keeper).keeper ≡ true;
  splits : (view_of l.keeper).splits ≡ l.worker-index;
  joined : (view_of l.keeper).joined ≡ [];
  own : (view_of l.keeper).own ≡ [];
  fresh : (k : ℕ) (d : _) → k < l.worker-index → IsSomeAnd (slice_index_or l.workers k d).pass (IsFresh l.claims);
  judges : HaveSameJudges l.fn.workers l.workers;
  notes : HaveSameNotes l.fn.workers l.workers;
}

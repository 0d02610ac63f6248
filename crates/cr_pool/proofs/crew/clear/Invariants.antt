use Rattle.std.proofs.Common.{◌<◌, ℕ, slice_index_or}
use Rattle.cr_pool.specs.Crew.{HaveSameJudges}
use Rattle.cr_pool.specs.Works.{IsBlank}
use Rattle.cr_pool.proofs.crew.clear.Given as goal

abbrev pub invariant-loop-worker : goal.invariant-loop-worker
invariant-loop-worker g l = record {
  judges : HaveSameJudges l.fn.workers l.workers;
  blank : (k : ℕ) (d : _) → k < l.worker-index → IsBlank l.len (slice_index_or l.workers k d).notes.items;
}

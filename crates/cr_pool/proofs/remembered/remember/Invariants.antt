use Rattle.std.proofs.Common.{◌≤◌}
use Rattle.cr_pool.specs.Endings.{TakesNotes}
use Rattle.cr_pool.specs.Jobs.{offer_of}
use Rattle.cr_pool.proofs.remembered.remember.Given as goal

abbrev pub invariant-loop-at : goal.invariant-loop-at
invariant-loop-at g l = record {
  takes : TakesNotes (offer_of g.P.Passes l.job) l.job.start l.at l.workers l.fn.verdicts l.verdicts l.lost;
  few : l.lost ≤ l.at;
}

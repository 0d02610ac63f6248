-- Where a job's positions lie.
use Rattle.std.proofs.Common.{◌+◌, ◌^◌, ◌<◌, ◌≤◌, length}
use Rattle.cr_cursor.specs.Variants.{cursors}
use Rattle.cr_cursor.specs.declared.passes.Passes.{Ghosts as PassesGhosts}
use Rattle.cr_pool.specs.declared.job.Job.{Job}
use Rattle.cr_pool.specs.Jobs.{IsPlaced, offer_of}

pub placed : {P I L Q : Type 0} (passes : PassesGhosts P I) (job : Job P L Q I) → job.start + job.len ≤ length (cursors (offer_of passes job).widths) → job.start + job.len < 2 ^ 64 → IsPlaced passes job
placed passes job among fits = record { among = among; fits = fits }

use Rattle.std.proofs.Common.{◌+◌}
use Rattle.cr_cursor.proofs.Members.{of_cursors}
use Rattle.cr_pool.specs.Jobs.{offer_of}
use Rattle.cr_pool.proofs.trial.make.Goals as goal

pub variant-requires : goal.variant-requires
variant-requires g c =
    let job = c.args.job.now in
    (of_cursors (offer_of g.P.Passes job).widths (job.start + c.args.at) c.cursor_at-cursor.result (c.cursor_at-cursor.ensures job.file.now)).index

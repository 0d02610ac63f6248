use Rattle.cr_cursor.proofs.Members.{of_cursors}
use Rattle.cr_standing_workers.proofs.trial.make_variant.Goals as goal

pub variant-requires : goal.variant-requires
variant-requires g c =
    let file = c.deref.result.now in
    (of_cursors (g.P.Passes.offer c.args.passes.now c.args.file.now.prep file).widths c.args.position c.cursor_at-cursor.result (c.cursor_at-cursor.ensures file)).index

use Rattle.std.proofs.Common.{◌≡◌, length, subst, arith}
use Rattle.std.specs.Arc.{arc_value}
use Rattle.cr_cursor.specs.Variants.{cursors}
use Rattle.cr_standing.proofs.Positions.{all_open, open_below}
use Rattle.cr_standing_workers.specs.Told.{searching_by}
use Rattle.cr_standing_workers.specs.declared.orders.Shared.{Shared}
use Rattle.cr_standing.proofs.ordering.accepted.Goals as goal

pub cursor_at-cursor-requires : goal.cursor_at-cursor-requires
cursor_at-cursor-requires g c =
    let s = searching_by g.P.Passes g.L.Law g.Q.Question c.args.task.now g.S.Subject.told in (
      c.args.old.now.bytes.items,
      open_below s (g.P.Passes.offer c.args.task.now.passes.now) g.S.Subject.orders g.S.Subject.replies g.S.Subject.verdicts c.requires.about c.args.old.now c.args.count c.args.at c.requires.all_open (omega arith),
    )

pub make_variant-requires : goal.make_variant-requires
make_variant-requires g c =
    let s = searching_by g.P.Passes g.L.Law g.Q.Question c.args.task.now g.S.Subject.told in
    record { below = open_below s (g.P.Passes.offer c.args.task.now.passes.now) g.S.Subject.orders g.S.Subject.replies g.S.Subject.verdicts c.requires.about c.args.old.now c.args.count c.args.at c.requires.all_open (omega arith) }

pub returns : goal.returns
returns g c =
    let s = searching_by g.P.Passes g.L.Law g.Q.Question c.args.task.now g.S.Subject.told in
    let make = g.P.Passes.offer c.args.task.now.passes.now in
    let now = arc_value c.in_ok-file.file in
    let counted : c.positions-count.result ≡ length (cursors (make now.prep now.bytes.items).widths) =
    subst (λ (sh : Shared g.row.P-Prep.Denot). c.positions-count.result ≡ length (cursors (make sh.prep now.bytes.items).widths)) c.deref.ensures (c.positions-count.ensures.count now.bytes.items) in
    all_open s make g.S.Subject.orders g.S.Subject.replies g.S.Subject.verdicts c.requires.about now c.positions-count.result c.in_ok-file.ensures counted

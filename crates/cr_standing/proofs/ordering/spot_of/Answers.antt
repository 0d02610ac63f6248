use Rattle.std.proofs.Common.{sym, subst}
use Rattle.cr_standing.proofs.Positions.{walk_open}
use Rattle.cr_standing_workers.specs.Channels.{AreOpen}
use Rattle.cr_standing_workers.specs.Told.{searching_by}
use Rattle.cr_standing_workers.specs.declared.orders.Shared.{Shared}
use Rattle.cr_standing.proofs.ordering.spot_of.Goals as goal

pub returns : goal.returns
returns g c =
    let walk = c.args.walk.now in
    let s = searching_by g.P.Passes g.L.Law g.Q.Question c.args.task.now g.S.Subject.told in
    subst (λ (sh : Shared g.row.P-Prep.Denot). AreOpen g.S.Subject.orders sh walk.count) (sym c.in-Ok.ensures)
    (walk_open s (g.P.Passes.offer c.args.task.now.passes.now) g.S.Subject.orders g.S.Subject.replies g.S.Subject.verdicts c.requires.about walk c.requires.sound)

use Rattle.std.proofs.Common.{◌+◌, ◌-◌, ◌≡◌, arith}
use Rattle.std.specs.Arc.{arc_value}
use Rattle.cr_reduce.proofs.Walks.{within_less}
use Rattle.cr_standing.specs.Walk.{standing_at}
use Rattle.cr_standing.proofs.Positions.{no_fewer, rejected}
use Rattle.cr_standing.proofs.Reading.{leads_over}
use Rattle.cr_standing_workers.specs.Told.{searching_by}
use Rattle.cr_standing.proofs.walking.pass_over.Goals as goal

pub returns-clause-leads : goal.returns-clause-leads
returns-clause-leads g c =
    let walk = c.args.walk.now in
    let make = g.P.Passes.offer c.args.task.now.passes.now in
    let s = searching_by g.P.Passes g.L.Law g.Q.Question c.args.task.now g.S.Subject.told in
    let sound = c.requires.sound.as_plain in
    let to = c.lesser-to.result in
    let after = c.lesser-to.ensures.above walk.position c.requires.after c.requires.ends.0 in
    leads_over s (standing_at make walk) to (walk.turns + (to - walk.position)) (omega (arith, after)) (omega (arith, c.lesser-to.ensures.second, c.requires.ends, sound.counted))
    (rejected s make g.S.Subject.orders g.S.Subject.replies g.S.Subject.verdicts c.requires.about walk.file.items (make (arc_value walk.shared).prep walk.file.items) walk.position to sound.offered
    (no_fewer g.S.Subject.replies walk.file.items walk.position c.args.to to c.requires.rejected c.lesser-to.ensures.first))
    (omega (arith, after))

pub returns-clause-within : goal.returns-clause-within
returns-clause-within g c = λ limit len is within.
    let walk = c.args.walk.now in
    let to = c.lesser-to.result in
    let after = c.lesser-to.ensures.above walk.position c.requires.after c.requires.ends.0 in
    within_less limit (walk.turns + (to - walk.position)) (walk.turns + len) (omega (arith, is, after, c.lesser-to.ensures.second)) within

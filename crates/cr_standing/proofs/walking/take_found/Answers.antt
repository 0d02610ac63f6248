use Rattle.std.proofs.Common.{◌≡◌, List, ℕ, subst, arith}
use Rattle.std.specs.Arc.{arc_value}
use Rattle.cr_reduce.specs.Walk.{IsTaken}
use Rattle.cr_standing.specs.Walk.{Leads, standing_at}
use Rattle.cr_standing.proofs.Positions.{first_found, found_smaller, on_ok}
use Rattle.cr_standing.proofs.Reading.{leads_taken}
use Rattle.cr_standing_workers.specs.declared.orders.Shared.{Shared}
use Rattle.cr_standing_workers.specs.Told.{AtPosition, searching_by}
use Rattle.cr_standing.proofs.walking.take_found.Goals as goal

pub take-requires-clause-smaller : goal.take-requires-clause-smaller
take-requires-clause-smaller g c =
    let walk = c.args.walk.now in
    let make = g.P.Passes.offer c.args.task.now.passes.now in
    let s = searching_by g.P.Passes g.L.Law g.Q.Question c.args.task.now g.S.Subject.told in
    let sound = c.requires.sound.as_plain in
    let now = arc_value walk.shared in
    let made = subst (λ (file : List ℕ). AtPosition (make now.prep file) c.args.position (λ (bytes : List ℕ). c.make_variant.new.variant.items ≡ bytes)) c.requires.sound.same
    (subst (λ (sh : Shared g.row.P-Prep.Denot). AtPosition (make sh.prep sh.bytes.items) c.args.position (λ (bytes : List ℕ). c.make_variant.new.variant.items ≡ bytes)) c.deref.ensures c.in_ok-make_variant.ensures) in
    found_smaller s make g.S.Subject.orders g.S.Subject.replies g.S.Subject.verdicts c.requires.about walk.file.items (make now.prep walk.file.items) c.args.position c.make_variant.new.variant.items
    sound.offered (omega (arith, c.requires.below, sound.counted)) c.requires.found made

pub returns-clause-leads : goal.returns-clause-leads
returns-clause-leads g c =
    let walk = c.args.walk.now in
    let make = g.P.Passes.offer c.args.task.now.passes.now in
    let s = searching_by g.P.Passes g.L.Law g.Q.Question c.args.task.now g.S.Subject.told in
    let from = standing_at make walk in
    let to = standing_at make c.take.new.walk in
    on_ok c.take.result (IsTaken (g.P.Passes.offers c.args.task.now.passes.now) from c.args.position to) (Leads s from to)
    (λ it. leads_taken s from to c.args.position it.at
    (first_found s make g.S.Subject.orders g.S.Subject.replies g.S.Subject.verdicts c.requires.about walk.file.items (make (arc_value walk.shared).prep walk.file.items) walk.position c.args.position it.at
    c.requires.sound.as_plain.offered c.requires.from it.there c.requires.rejected c.requires.found) it)
    c.take.ensures.taken

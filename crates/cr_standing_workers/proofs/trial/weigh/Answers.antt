use Rattle.std.proofs.Common.{rules, ◌≡◌, ℕ, List, subst}
use Rattle.cr_standing_workers.specs.Told.{AtPosition, WeighedSays, searching_by}
use Rattle.cr_standing_workers.proofs.Places.{weighed_at}
use Rattle.cr_standing_workers.proofs.trial.weigh.Goals as goal

pub returns : goal.returns
returns g c =
    let shared = c.args.file.now in
    let s = searching_by g.P.Passes g.L.Law g.Q.Question c.args.task.now g.S.Subject.told in
    let make = g.P.Passes.offer c.args.task.now.passes.now in
    let sized = (c.requires.about.order_out shared.prep shared.bytes.items shared.size c.args.position c.requires.is_open).sized in
    let made : AtPosition (make shared.prep shared.bytes.items) c.args.position (λ (bytes : List ℕ). c.make_variant.new.variant.items ≡ bytes) = search rules in
    weighed_at s make g.S.Subject.orders g.S.Subject.replies g.S.Subject.verdicts c.requires.about (g.met.P.Passes.one c.args.task.now.passes.now) shared.prep shared.bytes.items shared.size c.args.position
    c.make_variant.new.variant.items c.weigh_variant.result c.requires.is_open made
    (subst (λ (v : List ℕ). WeighedSays s shared.bytes.items v c.weigh_variant.result) c.deref.ensures.value (c.weigh_variant.ensures shared.bytes.items sized))

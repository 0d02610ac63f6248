use Rattle.std.proofs.Common.{refl, sym, subst}
use Rattle.cr_standing_workers.specs.Told.{WeighedSays, searching_by}
use Rattle.cr_standing_workers.proofs.Judges.{weighed_right}
use Rattle.cr_standing_workers.proofs.trial.weigh_smaller.Goals as goal

pub returns-in-Some : goal.returns-in-Some
returns-in-Some g c = λ file smaller.
    let s = searching_by g.P.Passes g.L.Law g.Q.Question c.args.task.now g.S.Subject.told in
    subst (WeighedSays s file c.args.variant.now) (sym c.weighed_by.ensures)
    (weighed_right s file c.args.variant.now c.in-Some.verdict smaller (c.requires.about.verdict_out c.args.variant.now c.in-Some.verdict c.in-Some.ensures))

pub returns-in-Lawful : goal.returns-in-Lawful
returns-in-Lawful g c = λ file smaller. (smaller, c.in-Lawful.ensures.lawful refl)

use Rattle.std.proofs.Common.{◌≡◌, rules, true, arith}
use Rattle.cr_standing.specs.Walk.{standing_at}
use Rattle.cr_standing_workers.specs.Told.{searching_by}
use Rattle.cr_standing_workers.proofs.Judges.{serves-refl}
use Rattle.cr_standing.proofs.Reading.{leads-refl, leads_round}
use Rattle.cr_standing.proofs.deciding.step.Goals as goal

pub returns-then-not-walk-clause-leads : goal.returns-then-not-walk-clause-leads
returns-then-not-walk-clause-leads g c = leads-refl (searching_by g.P.Passes g.L.Law g.Q.Question c.args.task.now g.S.Subject.told) (standing_at (g.P.Passes.offer c.args.task.now.passes.now) c.args.walk.now)

pub returns-then-eq-clause-leads : goal.returns-then-eq-clause-leads
returns-then-eq-clause-leads g c = leads-refl (searching_by g.P.Passes g.L.Law g.Q.Question c.args.task.now g.S.Subject.told) (standing_at (g.P.Passes.offer c.args.task.now.passes.now) c.args.walk.now)

pub returns-then-walk-clause-leads : goal.returns-then-walk-clause-leads
returns-then-walk-clause-leads g c =
    let changed : c.args.walk.now.changed ≡ true = search rules in
    leads_round (searching_by g.P.Passes g.L.Law g.Q.Question c.args.task.now g.S.Subject.told) (standing_at (g.P.Passes.offer c.args.task.now.passes.now) c.args.walk.now)
    (omega (arith, c.if-walk.true, c.requires.sound.as_plain.counted)) changed

pub returns-then-not-walk-clause-serves : goal.returns-then-not-walk-clause-serves
returns-then-not-walk-clause-serves g c = serves-refl g.J.Judge (g.Q.Question.asks c.args.task.now.question.now) c.args.judge.now

pub returns-then-walk-clause-serves : goal.returns-then-walk-clause-serves
returns-then-walk-clause-serves g c = serves-refl g.J.Judge (g.Q.Question.asks c.args.task.now.question.now) c.args.judge.now

pub returns-then-eq-clause-serves : goal.returns-then-eq-clause-serves
returns-then-eq-clause-serves g c = serves-refl g.J.Judge (g.Q.Question.asks c.args.task.now.question.now) c.args.judge.now

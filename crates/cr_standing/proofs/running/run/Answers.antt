use Rattle.std.proofs.Common.{ap, ◌∙◌}
use Rattle.std.specs.Arc.{arc_value}
use Rattle.cr_standing_workers.specs.Told.{searching_by}
use Rattle.cr_standing.proofs.Crews.{ended_untouched, ended_walk}
use Rattle.cr_standing.proofs.running.run.Goals as goal

pub returns-in_default : goal.returns-in_default
returns-in_default g c =
    let s = searching_by g.P.Passes g.L.Law g.Q.Question c.args.task.now g.S.Subject.told in
    let asks = g.Q.Question.asks c.args.task.now.question.now in
    let p = g.P.Passes.offers c.args.task.now.passes.now in
    let offer = g.P.Passes.offer c.args.task.now.passes.now in
    let limit = c.args.plan.now.limit in
    record { ends = ended_untouched s g.J.Judge asks p offer limit c.args.plan.now.workers c.args.file.items c.args.judges.items c.untouched.result (ap (λ v. v.items) c.untouched.ensures.file) c.untouched.ensures.rest }

pub returns-in-Err : goal.returns-in-Err
returns-in-Err g c =
    let s = searching_by g.P.Passes g.L.Law g.Q.Question c.args.task.now g.S.Subject.told in
    let asks = g.Q.Question.asks c.args.task.now.question.now in
    let p = g.P.Passes.offers c.args.task.now.passes.now in
    let offer = g.P.Passes.offer c.args.task.now.passes.now in
    let limit = c.args.plan.now.limit in
    record { ends = ended_untouched s g.J.Judge asks p offer limit c.args.plan.now.workers c.args.file.items c.args.judges.items c.untouched-in-Err.result (ap (λ v. v.items) (c.untouched-in-Err.ensures.file ∙ c.in-Err.ensures.back)) c.untouched-in-Err.ensures.rest }

pub returns : goal.returns
returns g c =
    let s = searching_by g.P.Passes g.L.Law g.Q.Question c.args.task.now g.S.Subject.told in
    let asks = g.Q.Question.asks c.args.task.now.question.now in
    let p = g.P.Passes.offers c.args.task.now.passes.now in
    let offer = g.P.Passes.offer c.args.task.now.passes.now in
    let limit = c.args.plan.now.limit in
    record {
      ends = ended_walk s g.J.Judge asks p offer limit c.args.plan.now.workers c.args.file.items (offer (arc_value c.in-Ok-begin.walk.shared).prep c.args.file.items) c.in-Ok-begin.walk c.args.judges.items c.go-judges.result c.end_of.result
          c.go-judges.ensures c.in-Ok-begin.ensures.offered c.in-Ok-begin.ensures.start c.end_of.ensures;
    }

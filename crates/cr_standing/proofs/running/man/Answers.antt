use Rattle.std.proofs.Common.{ap}
use Rattle.cr_standing_workers.specs.Told.{searching_by}
use Rattle.cr_standing.proofs.Crews.{any_room, unmanned_back}
use Rattle.cr_standing.proofs.running.man.Goals as goal

pub returns-then-not-crewed : goal.returns-then-not-crewed
returns-then-not-crewed g c =
    let s = searching_by g.P.Passes g.L.Law g.Q.Question c.args.task.now g.S.Subject.told in
    let asks = g.Q.Question.asks c.args.task.now.question.now in
    let p = g.P.Passes.offers c.args.task.now.passes.now in
    let offer = g.P.Passes.offer c.args.task.now.passes.now in
    let limit = c.args.plan.now.limit in
    unmanned_back s g.J.Judge asks p offer limit c.args.plan.now.workers c.args.walk c.args.judges.items c.unmanned.result c.requires.sound c.requires.within (ap (λ v. v.items) c.unmanned.ensures.0) c.unmanned.ensures.1 c.unmanned.ensures.2

pub returns-in_default : goal.returns-in_default
returns-in_default g c =
    let s = searching_by g.P.Passes g.L.Law g.Q.Question c.args.task.now g.S.Subject.told in
    let asks = g.Q.Question.asks c.args.task.now.question.now in
    let p = g.P.Passes.offers c.args.task.now.passes.now in
    let offer = g.P.Passes.offer c.args.task.now.passes.now in
    let limit = c.args.plan.now.limit in
    unmanned_back s g.J.Judge asks p offer limit c.args.plan.now.workers c.args.walk c.args.judges.items c.unmanned-in_default.result c.requires.sound c.requires.within (ap (λ v. v.items) c.unmanned-in_default.ensures.0) c.unmanned-in_default.ensures.1 c.unmanned-in_default.ensures.2

pub returns-in_default-bounded_with : goal.returns-in_default-bounded_with
returns-in_default-bounded_with g c =
    let s = searching_by g.P.Passes g.L.Law g.Q.Question c.args.task.now g.S.Subject.told in
    let asks = g.Q.Question.asks c.args.task.now.question.now in
    let p = g.P.Passes.offers c.args.task.now.passes.now in
    let offer = g.P.Passes.offer c.args.task.now.passes.now in
    let limit = c.args.plan.now.limit in
    unmanned_back s g.J.Judge asks p offer limit c.args.plan.now.workers c.args.walk c.args.judges.items c.unmanned-in_default-bounded_with.result c.requires.sound c.requires.within (ap (λ v. v.items) c.unmanned-in_default-bounded_with.ensures.0) c.unmanned-in_default-bounded_with.ensures.1 c.unmanned-in_default-bounded_with.ensures.2

pub returns-in_default-bounded_with-2 : goal.returns-in_default-bounded_with-2
returns-in_default-bounded_with-2 g c =
    let s = searching_by g.P.Passes g.L.Law g.Q.Question c.args.task.now g.S.Subject.told in
    let asks = g.Q.Question.asks c.args.task.now.question.now in
    let p = g.P.Passes.offers c.args.task.now.passes.now in
    let offer = g.P.Passes.offer c.args.task.now.passes.now in
    let limit = c.args.plan.now.limit in
    unmanned_back s g.J.Judge asks p offer limit c.args.plan.now.workers c.args.walk c.args.judges.items c.unmanned-in_default-bounded_with-2.result c.requires.sound c.requires.within (ap (λ v. v.items) c.unmanned-in_default-bounded_with-2.ensures.0) c.unmanned-in_default-bounded_with-2.ensures.1 c.unmanned-in_default-bounded_with-2.ensures.2

pub returns : goal.returns
returns g c =
    let s = searching_by g.P.Passes g.L.Law g.Q.Question c.args.task.now g.S.Subject.told in
    let asks = g.Q.Question.asks c.args.task.now.question.now in
    let p = g.P.Passes.offers c.args.task.now.passes.now in
    let offer = g.P.Passes.offer c.args.task.now.passes.now in
    let limit = c.args.plan.now.limit in
    any_room s g.J.Judge asks p offer limit c.len-made.result c.args.plan.now.workers c.args.walk c.args.judges.items c.crew.result c.crew.ensures

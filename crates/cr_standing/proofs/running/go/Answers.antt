use Rattle.std.proofs.Common.{Option, Some, ap, arith, refl, subst, ◌∙◌}
use Rattle.cr_reduce.specs.declared.end.Why.{Why}
use Rattle.cr_standing.specs.Crew.{LeavesSo}
use Rattle.cr_standing.specs.Walk.{standing_at}
use Rattle.cr_standing_workers.specs.Told.{searching_by}
use Rattle.cr_standing_workers.proofs.Judges.{each-refl, each-trans, each_told, each_length}
use Rattle.cr_standing.proofs.Crews.{managed_back, managed_step}
use Rattle.cr_standing.proofs.Reading.{leads-refl, leads-trans}
use Rattle.cr_standing.proofs.running.go.Goals as goal

pub loop-init : goal.loop-init
loop-init g c = record {
  serve = each-refl g.J.Judge (g.Q.Question.asks c.args.task.now.question.now) c.args.judges.items;
  idle = refl;
  sound = c.requires.sound;
  leads = leads-refl (searching_by g.P.Passes g.L.Law g.Q.Question c.args.task.now g.S.Subject.told) (standing_at (g.P.Passes.offer c.args.task.now.passes.now) c.args.walk);
  within = c.requires.within;
}

pub man-back-requires-clause-told : goal.man-back-requires-clause-told
man-back-requires-clause-told g c = λ sends shares. each_told g.J.Judge (g.Q.Question.asks c.args.task.now.question.now) g.J.Judge.says g.S.Subject.told c.args.judges.items c.loop.judges.items c.loop.invariant.serve c.requires.told

pub returns-in-Some-why : goal.returns-in-Some-why
returns-in-Some-why g c =
    let s = searching_by g.P.Passes g.L.Law g.Q.Question c.args.task.now g.S.Subject.told in
    let asks = g.Q.Question.asks c.args.task.now.question.now in
    let p = g.P.Passes.offers c.args.task.now.passes.now in
    let offer = g.P.Passes.offer c.args.task.now.passes.now in
    managed_back s g.J.Judge asks p offer c.args.plan.now.limit 0 c.args.plan.now.workers c.args.walk c.loop.walk c.args.judges.items c.loop.judges.items c.man-back.result
    (record { judges = c.man-back.result.judges; walk = c.man-back.result.walk; why = c.in-Some-why.why }) c.in-Some-why.why c.loop.invariant.serve c.loop.invariant.idle c.loop.invariant.leads c.man-back.ensures c.in-Some-why.is refl

pub step_by_first-requires-clause-told : goal.step_by_first-requires-clause-told
step_by_first-requires-clause-told g c =
    let asks = g.Q.Question.asks c.args.task.now.question.now in
    each_told g.J.Judge asks g.J.Judge.says g.S.Subject.told c.loop.judges.items c.man-back.result.judges.items c.man-back.ensures.serve
    (each_told g.J.Judge asks g.J.Judge.says g.S.Subject.told c.args.judges.items c.loop.judges.items c.loop.invariant.serve c.requires.told)

pub step_by_first-requires-clause-some : goal.step_by_first-requires-clause-some
step_by_first-requires-clause-some g c =
    let asks = g.Q.Question.asks c.args.task.now.question.now in
    omega (arith, c.requires.some, each_length g.J.Judge asks c.args.judges.items c.loop.judges.items c.loop.invariant.serve, each_length g.J.Judge asks c.loop.judges.items c.man-back.result.judges.items c.man-back.ensures.serve)

pub step_by_first-requires-clause-sound : goal.step_by_first-requires-clause-sound
step_by_first-requires-clause-sound g c =
    let s = searching_by g.P.Passes g.L.Law g.Q.Question c.args.task.now g.S.Subject.told in
    let p = g.P.Passes.offers c.args.task.now.passes.now in
    let offer = g.P.Passes.offer c.args.task.now.passes.now in
    subst (λ (why : Option Why). LeavesSo s p offer c.args.plan.now.limit c.man-back.result.walk why) c.in_default.is c.man-back.ensures.leaves

pub returns-in-Some-step_by_first : goal.returns-in-Some-step_by_first
returns-in-Some-step_by_first g c =
    let s = searching_by g.P.Passes g.L.Law g.Q.Question c.args.task.now g.S.Subject.told in
    let asks = g.Q.Question.asks c.args.task.now.question.now in
    let p = g.P.Passes.offers c.args.task.now.passes.now in
    let offer = g.P.Passes.offer c.args.task.now.passes.now in
    let back = c.man-back.result in
    let it = c.in-Some-step_by_first.ensures in
    let why = c.in-Some-step_by_first.why in
    managed_step s g.J.Judge asks p offer c.args.plan.now.limit c.args.plan.now.workers c.args.walk back.walk c.step_by_first.new.walk c.args.judges.items back.judges.items c.step_by_first.new.judges.items
    (record { judges = c.step_by_first.new.judges; walk = c.step_by_first.new.walk; why = why })
    (each-trans g.J.Judge asks c.args.judges.items c.loop.judges.items back.judges.items c.loop.invariant.serve c.man-back.ensures.serve) (c.man-back.ensures.idle ∙ c.loop.invariant.idle)
    (leads-trans s (standing_at offer c.args.walk) (standing_at offer c.loop.walk) (standing_at offer back.walk) c.loop.invariant.leads c.man-back.ensures.leads)
    it.serve it.idle it.leads it.placed it.within (it.ended why refl) (λ turn worker fault. it.first turn worker (ap Some fault)) refl refl

pub loop-preserved : goal.loop-preserved
loop-preserved g c =
    let s = searching_by g.P.Passes g.L.Law g.Q.Question c.args.task.now g.S.Subject.told in
    let asks = g.Q.Question.asks c.args.task.now.question.now in
    let offer = g.P.Passes.offer c.args.task.now.passes.now in
    let back = c.man-back.result in
    let it = c.in_default-step_by_first.ensures in
    record {
      serve = each-trans g.J.Judge asks c.args.judges.items back.judges.items c.step_by_first.new.judges.items
          (each-trans g.J.Judge asks c.args.judges.items c.loop.judges.items back.judges.items c.loop.invariant.serve c.man-back.ensures.serve) it.serve;
      idle = it.idle ∙ c.man-back.ensures.idle ∙ c.loop.invariant.idle;
      sound = it.sound refl;
      leads = leads-trans s (standing_at offer c.args.walk) (standing_at offer back.walk) (standing_at offer c.step_by_first.new.walk)
          (leads-trans s (standing_at offer c.args.walk) (standing_at offer c.loop.walk) (standing_at offer back.walk) c.loop.invariant.leads c.man-back.ensures.leads) it.leads;
      within = it.within;
    }

use Rattle.std.proofs.Common.{ap, sym, subst, ◌∙◌}
use Rattle.cr_standing_workers.specs.Serving.{Serves}
use Rattle.cr_standing_workers.proofs.Judges.{serves-refl, serves-trans}
use Rattle.cr_standing_workers.proofs.work.serve.Goals as goal
use Rattle.cr_standing_workers.proofs.work.serve.Goals.{in-None, in-Some+in_default, in-Some+in_default-2, in-Some+in-Some-Try+then-not-send_reply}

pub loop-init : goal.loop-init
loop-init g c = record { serves = serves-refl g.J.Judge (g.Q.Question.asks c.args.task.now.question.now) c.args.judge; seats = c.requires.seats }

pub answer-said-requires-clause-told : goal.answer-said-requires-clause-told
answer-said-requires-clause-told g c = ap g.J.Judge.says c.loop.invariant.serves.key ∙ c.requires.told

pub loop-preserved : goal.loop-preserved
loop-preserved g c = record {
  serves = serves-trans g.J.Judge (g.Q.Question.asks c.args.task.now.question.now) c.args.judge c.loop.judge c.answer-said.new.judge c.loop.invariant.serves c.answer-said.ensures.serves;
  seats = c.send_reply.ensures.seats;
}

pub returns : goal.returns
returns g c =
    let asks = g.Q.Question.asks c.args.task.now.question.now in
    let so_far = c.loop.invariant.serves in
    elim c.match-next.branch [
      | in-None w ↦ subst (Serves g.J.Judge asks c.args.judge) (sym w.judge-is) so_far
      | in-Some+in_default w ↦ subst (Serves g.J.Judge asks c.args.judge) (sym w.judge-is) so_far
      | in-Some+in_default-2 w ↦ subst (Serves g.J.Judge asks c.args.judge) (sym w.judge-is) so_far
      | in-Some+in-Some-Try+then-not-send_reply w ↦
          subst (Serves g.J.Judge asks c.args.judge) (sym w.judge-is) (serves-trans g.J.Judge asks c.args.judge c.loop.judge w.answer-said.new.judge so_far w.answer-said.ensures.serves)
    ]

use Rattle.std.proofs.Common.{◌≡◌, Some, ap, ◌∙◌}
use Rattle.cr_standing.specs.Walk.{standing_at}
use Rattle.cr_standing_workers.specs.Told.{searching_by}
use Rattle.cr_standing.proofs.Crews.{first_alone, first_ended, first_serves}
use Rattle.cr_standing.proofs.deciding.step_by_first.Goals as goal

pub returns-clause-serve : goal.returns-clause-serve
returns-clause-serve g c =
    first_serves g.J.Judge (g.Q.Question.asks c.args.task.now.question.now) c.args.judges.now.items c.index_mut.result.now c.step.new.judge c.requires.some c.index_mut.ensures.value c.step.ensures.serves

pub returns-clause-idle : goal.returns-clause-idle
returns-clause-idle g c = first_alone c.args.plan.now.workers c.args.judges.now.items c.step.new.judge c.requires.workers

pub returns-clause-ended : goal.returns-clause-ended
returns-clause-ended g c = λ why is.
    let s = searching_by g.P.Passes g.L.Law g.Q.Question c.args.task.now g.S.Subject.told in
    first_ended s g.J.Judge c.args.plan.now.limit (standing_at (g.P.Passes.offer c.args.task.now.passes.now) c.step.new.walk) why c.args.judges.now.items c.index_mut.result.now c.step.new.judge c.requires.some c.index_mut.ensures.value
    (λ turn worker fault. c.step.ensures.first turn worker (is ∙ ap Some fault)) (c.step.ensures.ended why is)

use Rattle.cr_pool.specs.Kept.{IsRight}
use Rattle.cr_pool.specs.Tally.{first_says}
use Rattle.cr_standing_workers.specs.Told.{IsPlace, SaysAt, searching_by}
use Rattle.cr_standing.proofs.running.reduce_by_judges.Given as goal

abbrev pub ghosts-run : goal.ghosts-run
ghosts-run g a = record {
  told = first_says g.J.Judge.key g.J.Judge.says a.judges.items;
  orders = IsPlace (searching_by g.P.Passes g.L.Law g.Q.Question a.task.now (first_says g.J.Judge.key g.J.Judge.says a.judges.items)) (g.P.Passes.offer a.task.now.passes.now);
  replies = SaysAt (searching_by g.P.Passes g.L.Law g.Q.Question a.task.now (first_says g.J.Judge.key g.J.Judge.says a.judges.items));
  verdicts = IsRight (g.L.Law.lawful a.task.now.law.now) (g.Q.Question.asks a.task.now.question.now) (g.Q.Question.tells a.task.now.question.now (first_says g.J.Judge.key g.J.Judge.says a.judges.items) a.task.now.name.now);
}

use Rattle.cr_standing_workers.specs.Channels.{AreSeats}
use Rattle.cr_standing_workers.specs.Serving.{Serves}
use Rattle.cr_standing_workers.proofs.work.serve.Given as goal

abbrev pub invariant-loop : goal.invariant-loop
invariant-loop g l = record {
  serves : Serves g.J.Judge (g.Q.Question.asks l.task.question.now) l.fn.judge l.judge;
  seats : AreSeats l.lines l.seat;
}

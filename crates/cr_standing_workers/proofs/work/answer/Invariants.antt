use Rattle.std.specs.Arc.{arc_value}
use Rattle.cr_standing_workers.specs.Channels.{AllNo, AreSeats}
use Rattle.cr_standing_workers.specs.Serving.{Serves}
use Rattle.cr_standing_workers.proofs.work.answer.Given as goal

abbrev pub invariant-loop-at : goal.invariant-loop-at
invariant-loop-at g l = record {
  serves : Serves g.J.Judge (g.Q.Question.asks l.task.question.now) l.fn.judge l.judge;
  seats : AreSeats l.lines l.seat;
  rejected : AllNo g.S.Subject.replies (arc_value l.place.file).bytes.items l.place.from l.at;
}

use Rattle.std.proofs.Common.{ap, refl, arith, ◌+◌, ◌-◌, ◌∙◌}
use Rattle.std.specs.Arc.{arc_value}
use Rattle.cr_standing_workers.proofs.Judges.{serves-refl, serves-trans}
use Rattle.cr_standing_workers.proofs.Places.{no_more, up_to_last}
use Rattle.cr_standing_workers.proofs.work.answer.Goals as goal

pub loop-at-init : goal.loop-at-init
loop-at-init g c = record {
  serves = serves-refl g.J.Judge (g.Q.Question.asks c.args.task.now.question.now) c.args.judge.now;
  seats = c.requires.seats;
  rejected = λ position low high. absurd (omega (arith, low, high));
}

pub try_place-requires-clause-told : goal.try_place-requires-clause-told
try_place-requires-clause-told g c = ap g.J.Judge.says c.loop-at.invariant.serves.key ∙ c.requires.told

pub loop-at-preserved : goal.loop-at-preserved
loop-at-preserved g c = record {
  serves = serves-trans g.J.Judge (g.Q.Question.asks c.args.task.now.question.now) c.args.judge.now c.loop-at.judge c.try_place.new.judge c.loop-at.invariant.serves c.in_default.ensures.serves;
  seats = c.in_default.ensures.seats;
  rejected = no_more g.S.Subject.replies (arc_value c.args.place.file).bytes.items c.args.place.from c.loop-at.at (c.loop-at.at + 1) c.loop-at.invariant.rejected c.in_default.ensures.says refl;
}

pub returns : goal.returns
returns g c = record {
  is_true = up_to_last g.S.Subject.replies (arc_value c.args.place.file).bytes.items c.args.place.from c.loop-at.at (c.args.place.to - 1) c.args.place.to c.loop-at.invariant.rejected (omega arith) c.requires.is_open.0 refl;
  serves = c.loop-at.invariant.serves;
  seats = c.loop-at.invariant.seats;
}

pub returns-in-Some-clause-serves : goal.returns-in-Some-clause-serves
returns-in-Some-clause-serves g c = serves-trans g.J.Judge (g.Q.Question.asks c.args.task.now.question.now) c.args.judge.now c.loop-at.judge c.try_place.new.judge c.loop-at.invariant.serves c.in-Some.ensures.serves

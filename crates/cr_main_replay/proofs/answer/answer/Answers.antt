use Rattle.std.proofs.Common.{ap, Ok, subst}
use Rattle.cr_main_task.specs.Messages.{refusal_line, refusal_status}
use Rattle.cr_main_task.specs.Outside.{Says}
use Rattle.cr_main_task.specs.declared.messages.Refusal.TheVariants as refusal
use Rattle.cr_main_replay.specs.Replay.Answers.{ruled_out}
use Rattle.cr_main_replay.proofs.answer.answer.Goals as goal

pub returns-in-Ok-Some : goal.returns-in-Ok-Some
returns-in-Ok-Some g c =
    let why = refusal.Against c.in-Ok-Some.reason in
    ruled_out c.in-Ok-Some.reason (c.in-Ok-Some.ensures.unlawful c.in-Ok-Some.reason (ap Ok c.in-Ok-Some.field-0-is)) (c.in-Ok-Some.ensures.against c.in-Ok-Some.reason (ap Ok c.in-Ok-Some.field-0-is))
    (subst (λ name. Says (g.O.Sink.told c.args.out.now) (g.O.Sink.told c.refuse.new.out) (g.O.Sink.faults c.args.out.now) (g.O.Sink.faults c.refuse.new.out) (refusal_line name why) (refusal_status why) (refusal_status why) c.refuse.result)
    c.requires.named c.refuse.ensures)

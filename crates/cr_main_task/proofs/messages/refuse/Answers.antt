use Rattle.std.proofs.Common.{◌∙◌, subst}
use Rattle.cr_main_task.specs.Messages.{refusal_line, refusal_status}
use Rattle.cr_main_task.specs.Outside.{Says}
use Rattle.cr_main_task.proofs.Puts.{says_nothing}
use Rattle.cr_main_task.proofs.messages.refuse.Goals as goal

pub returns-in-Ok : goal.returns-in-Ok
returns-in-Ok g c =
    subst (λ n. Says (g.O.Sink.told c.args.out.now) (g.O.Sink.told c.put.new.out) (g.O.Sink.faults c.args.out.now) (g.O.Sink.faults c.put.new.out) (refusal_line c.args.name.now c.args.why) n n c.put.result)
    c.status_of-status.ensures
    (subst (λ line. Says (g.O.Sink.told c.args.out.now) (g.O.Sink.told c.put.new.out) (g.O.Sink.faults c.args.out.now) (g.O.Sink.faults c.put.new.out) line c.status_of-status.result c.status_of-status.result c.put.result)
    (c.deref.ensures.value ∙ c.in-Ok.ensures) c.put.ensures)

pub returns-in-Err : goal.returns-in-Err
returns-in-Err g c = says_nothing (g.O.Sink.told c.args.out.now) (g.O.Sink.faults c.args.out.now) (g.O.Sink.faults c.args.out.now) (refusal_line c.args.name.now c.args.why) (refusal_status c.args.why) (refusal_status c.args.why)

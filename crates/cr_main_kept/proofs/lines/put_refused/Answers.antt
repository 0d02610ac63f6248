use Rattle.std.proofs.Common.{◌∙◌, subst}
use Rattle.cr_main_task.specs.Outside.{Says}
use Rattle.cr_main_task.proofs.Puts.{says_nothing}
use Rattle.cr_main_kept.specs.Lines.{refused_line}
use Rattle.cr_main_kept.proofs.lines.put_refused.Goals as goal

pub returns-in-Ok : goal.returns-in-Ok
returns-in-Ok g c =
    subst (λ line. Says (g.O.Sink.told c.args.out.now) (g.O.Sink.told c.put.new.out) (g.O.Sink.faults c.args.out.now) (g.O.Sink.faults c.put.new.out) line 13 13 c.put.result)
    (c.deref.ensures.value ∙ c.in-Ok.ensures) c.put.ensures

pub returns-in-Err : goal.returns-in-Err
returns-in-Err g c = says_nothing (g.O.Sink.told c.args.out.now) (g.O.Sink.faults c.args.out.now) (g.O.Sink.faults c.args.out.now) (refused_line c.args.name.now c.args.number) 13 13

use Rattle.std.proofs.Common.{subst}
use Rattle.cr_main_task.specs.Outside.{Says}
use Rattle.cr_main.proofs.messages.put_usage.Goals as goal

pub returns : goal.returns
returns g c =
    subst (λ line. Says (g.O.Sink.told c.args.out.now) (g.O.Sink.told c.put.new.out) (g.O.Sink.faults c.args.out.now) (g.O.Sink.faults c.put.new.out) line 2 2 c.put.result)
    c.as_bytes.ensures.value c.put.ensures

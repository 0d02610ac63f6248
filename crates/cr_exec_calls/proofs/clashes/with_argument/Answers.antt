use Rattle.cr_exec_calls.proofs.Joining.{adds_held}
use Rattle.cr_exec_calls.proofs.clashes.with_argument.Goals as goal

pub returns-in-Ok : goal.returns-in-Ok
returns-in-Ok c = adds_held c.args.held.now c.in-Part.part c.in-Ok.foot c.args.later c.argument.result c.in-Part.is c.in-Ok.ensures c.argument.ensures

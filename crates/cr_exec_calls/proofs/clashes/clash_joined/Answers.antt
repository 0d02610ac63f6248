use Rattle.cr_exec_calls.proofs.Joining.{last_none, last_more, last_conflict, last_all}
use Rattle.cr_exec_calls.proofs.Clashing.{at_end}
use Rattle.cr_exec_calls.proofs.clashes.clash_joined.Goals as goal

pub loop-held-init : goal.loop-held-init
loop-held-init c = last_none c.args.done.now c.none-later.result c.none-later.ensures

pub returns-in-Err-Undefined : goal.returns-in-Err-Undefined
returns-in-Err-Undefined c =
    last_conflict c.args.done.now c.loop-held.left.now c.in-Some.before.now c.in-Some.held.now c.loop-held.later c.in-Err-Undefined.field-0-0 c.loop-held.invariant c.in-Some.ensures.cases.0
    (rw c.in-Err-Undefined.field-0-is at c.in-Err-Undefined.ensures)

pub loop-held-preserved : goal.loop-held-preserved
loop-held-preserved c =
    last_more c.args.done.now c.loop-held.left.now c.in-Some.before.now c.in-Some.held.now c.loop-held.later c.in-Ok.foot c.loop-held.invariant c.in-Some.ensures.cases.0 c.in-Ok.ensures

pub returns : goal.returns
returns c = last_all c.args.done.now c.loop-held.left.now c.loop-held.later c.loop-held.invariant (at_end c.loop-held.left.now c.in_default.ensures.cases)

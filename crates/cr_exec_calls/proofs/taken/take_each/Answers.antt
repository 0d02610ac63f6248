use Rattle.std.proofs.Common.{reverse, refl, ◌∙◌}
use Rattle.cr_exec_calls.proofs.Taking.{takes_none, takes_more, takes_fails}
use Rattle.cr_exec_calls.proofs.taken.take_each.Goals as goal

pub loop-held-init : goal.loop-held-init
loop-held-init c = record { some = takes_none c.args.stack.now.top.done _ c.new.ensures.items c.none.ensures; below = refl }

pub returns-in-Err-clause-taken : goal.returns-in-Err-clause-taken
returns-in-Err-clause-taken c =
    takes_fails reverse c.args.stack.now.top.done c.loop-held.stack.top.done c.pop.new.self.top.done c.in-Part.part c.in-Some.held c.loop-held.taken c.in-Err.trap
    c.loop-held.invariant.some c.in-Some.ensures.last c.in-Part.is c.in-Err.ensures.foot

pub loop-held-preserved : goal.loop-held-preserved
loop-held-preserved c = record {
  some = takes_more c.args.stack.now.top.done c.loop-held.stack.top.done c.pop.new.self.top.done c.in-Part.part c.in-Some.held c.loop-held.taken c.in-Ok.taken
      c.loop-held.invariant.some c.in-Some.ensures.last c.in-Part.is c.in-Ok.ensures.foot c.in-Ok.ensures.values;
  below = c.in-Some.ensures.below ∙ c.loop-held.invariant.below;
}

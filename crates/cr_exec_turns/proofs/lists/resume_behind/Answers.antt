use Rattle.std.proofs.Common.{sym, ◌∙◌, ◌+◌, ◌-◌, drop, arith}
use Rattle.cr_exec_turns.proofs.Turning.{stays_on, stays_no_more, none_left}
use Rattle.cr_exec_turns.proofs.lists.resume_behind.Goals as goal

pub loop-left-preserved : goal.loop-left-preserved
loop-left-preserved c =
    let more = c.loop-left-test.true in
    sym (stays_on c.loop-left.count c.args.done.now c.loop-left.left (c.loop-left.count + 1) (c.loop-left.left - 1) (omega arith) (omega (arith, more))
    (sym c.is_passed.ensures ∙ c.if-is_passed.true))
    ∙ c.loop-left.invariant

pub returns-else-is_passed : goal.returns-else-is_passed
returns-else-is_passed c =
    sym (stays_no_more c.loop-left.count c.loop-left.count c.args.done.now c.loop-left.left (sym c.is_passed.ensures ∙ c.if-is_passed.false))
    ∙ c.loop-left.invariant

pub returns-after-loop-left : goal.returns-after-loop-left
returns-after-loop-left c =
    let none = c.loop-left-test.false in
    sym (none_left c.loop-left.count (drop c.loop-left.count c.args.done.now) c.loop-left.left (omega (arith, none)))
    ∙ c.loop-left.invariant

use Rattle.std.proofs.Common.{true, false, List, sym, subst, rules}
use Rattle.cr_exec_turns.specs.declared.held.Held.{Held}
use Rattle.cr_exec_calls.specs.Clashes.{MeetsAny}
use Rattle.cr_exec_calls.proofs.Clashing.{any_here, any_later, any_at_end}
use Rattle.cr_exec_calls.proofs.clashes.meets_any.Goals as goal

pub returns-then-meets_one : goal.returns-then-meets_one
returns-then-meets_one c =
    let P : List Held → Type 0 = λ l. MeetsAny c.args.foot.now l true in
    c.loop-other.invariant true (subst P (sym c.in-Some.ensures.cases.0) (any_here c.args.foot.now c.in-Some.other.now c.in-Some.more.now c.if-meets_one.ensures))

pub loop-other-preserved : goal.loop-other-preserved
loop-other-preserved c = λ b m.
    let P : List Held → Type 0 = λ l. MeetsAny c.args.foot.now l b in
    c.loop-other.invariant b (subst P (sym c.in-Some.ensures.cases.0) (any_later c.args.foot.now c.in-Some.other.now c.in-Some.more.now b c.if-meets_one.ensures m))

pub returns : goal.returns
returns c = c.loop-other.invariant false (any_at_end c.args.foot.now c.loop-other.rest.now (search rules))

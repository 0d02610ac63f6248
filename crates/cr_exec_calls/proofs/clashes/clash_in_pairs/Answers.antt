use Rattle.std.proofs.Common.{List, sym, subst}
use Rattle.cr_exec_turns.specs.declared.held.Held.{Held}
use Rattle.cr_exec_calls.specs.Clashes.{Clashes}
use Rattle.cr_exec_calls.proofs.Clashing.{clashes_later}
use Rattle.cr_exec_calls.proofs.clashes.clash_in_pairs.Goals as goal

pub loop-argument-preserved : goal.loop-argument-preserved
loop-argument-preserved c = λ b m.
    let P : List Held → Type 0 = λ l. Clashes l b in
    c.loop-argument.invariant b (subst P (sym c.in-Some.ensures.cases.0) (clashes_later c.in-Some.argument.now c.in-Some.later.now b c.if-meets_later.ensures m))

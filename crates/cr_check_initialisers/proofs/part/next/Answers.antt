use Rattle.std.proofs.Common.{◌∙◌, sym, arith}
use Rattle.cr_check_initialisers.proofs.Lists.{taken, dropped, emptied, ended}
use Rattle.cr_check_initialisers.proofs.part.next.Goals as goal

pub returns-in-Some-first_of : goal.returns-in-Some-first_of
returns-in-Some-first_of c =
    let front = c.in-Some-first_of.front in
    sym c.loop-frame.invariant
    ∙ taken c.args.source.now c.loop-frame.stack.items c.pop.new.self.items c.push_rest.new.stack.items c.in-Some.frame front.row front.rest
    c.in-Some.ensures.items c.in-Some-first_of.ensures c.in_ok-push_rest.ensures

pub loop-frame-preserved : goal.loop-frame-preserved
loop-frame-preserved c =
    sym (dropped c.args.source.now c.loop-frame.stack.items c.pop.new.self.items c.in-Some.frame c.first_of.result
    c.in-Some.ensures.items c.first_of.ensures c.in_default-first_of.not-Some)
    ∙ c.loop-frame.invariant

pub returns : goal.returns
returns c =
    let none = ended c.pop.result _ _ c.pop.ensures.cases c.in_default.not-Some in
    sym c.loop-frame.invariant ∙ emptied c.args.source.now c.loop-frame.stack.items (omega (arith, none, c.loop-frame.stack.ok.0))

use Rattle.std.proofs.Common.{◌<◌, sym, subst, ◌∙◌, arith}
use Rattle.std.proofs.lemmas.List.{drop_all}
use Rattle.cr_check_initialisers.specs.Known.{known_of}
use Rattle.cr_check_initialisers.specs.Steps.{left, IsNext}
use Rattle.cr_check_initialisers.proofs.Lists.{alone}
use Rattle.cr_check_initialisers.proofs.Walks.{finished, in_braces, exceeded}
use Rattle.cr_check_initialisers.proofs.walk.+walk.Goals as goal

pub braced-returns : goal.braced-returns
braced-returns t c =
    let s = c.args.source.now in
    let one = alone s c.args.places c.new-stack.result.items c.push_frame.new.stack.items c.new-stack.ensures.items c.in_ok-push_frame.ensures in
    rw (one, c.initialisers.ensures) at c.fill.ensures

pub fill-returns : goal.fill-returns
fill-returns t c = finished _ _ _ _ _ _ _ _ c.loop-node.invariant (drop_all c.loop-node.node-index c.args.list.now (omega arith))

pub place-braced-requires : goal.place-braced-requires
place-braced-requires t c =
    let below : c.args.node < c.args.brace = c.opens.ensures.below c.if-opens.true in (omega (arith, below), tt)

pub place-returns-in_ok-braced-in-Some : goal.place-returns-in_ok-braced-in-Some
place-returns-in_ok-braced-in-Some t c =
    let s = c.args.source.now in
    let next = subst (λ o. IsNext s (left s c.args.stack.now.items) o (left s c.next.new.stack.items)) c.in-Some.is c.in_ok-part.ensures in
    in_braces s c.args.brace c.args.node _ _ c.in-Some.part c.inside-rest.result c.initialisers.result.now _ _ next
    (sym c.opens.ensures.is ∙ c.if-opens.true) c.initialisers.ensures c.inside-rest.ensures c.in_ok-braced-in-Some.ensures

pub place-returns-in_ok-exceed-in-None : goal.place-returns-in_ok-exceed-in-None
place-returns-in_ok-exceed-in-None t c =
    let s = c.args.source.now in
    let next = subst (λ o. IsNext s (left s c.args.stack.now.items) o (left s c.next.new.stack.items)) c.in-None.is c.in_ok-part.ensures in
    exceeded (known_of s) c.args.brace c.args.node _ (left s c.next.new.stack.items) _ _ next c.in_ok-exceed-in-None.ensures

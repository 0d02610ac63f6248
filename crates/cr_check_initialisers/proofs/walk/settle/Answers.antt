use Rattle.std.proofs.Common.{sym, subst, ◌∙◌, refl}
use Rattle.cr_check_initialisers.specs.Known.{known_of}
use Rattle.cr_check_initialisers.specs.Steps.{place_of, left, IsNext}
use Rattle.cr_check_initialisers.proofs.Walks.{begun, taken_whole, lost_whole, opened, led_out, led_on}
use Rattle.cr_check_initialisers.proofs.walk.settle.Goals as goal

pub loop-init : goal.loop-init
loop-init c = record { lines = refl; leads = begun _ _ _ _ _ }

pub returns-then-takes : goal.returns-then-takes
returns-then-takes c =
    let s = c.args.source.now in
    taken_whole (known_of s) c.args.brace c.args.node _ _ (place_of s c.loop.part) _ _ _ c.requires (sym c.takes.ensures ∙ c.if-takes.true)
    c.loop.invariant.leads c.loop.invariant.lines c.in_ok-initialise.ensures

pub returns-then-is_lost : goal.returns-then-is_lost
returns-then-is_lost c =
    let s = c.args.source.now in
    lost_whole (known_of s) c.args.brace c.args.node _ _ (left s c.loop.stack.items) (place_of s c.loop.part) _ _ _ c.requires
    (sym c.takes.ensures ∙ c.if-takes.false) (sym c.is_lost.ensures ∙ c.if-is_lost.true)
    c.loop.invariant.leads c.loop.invariant.lines c.in_ok-initialise-2.ensures

pub returns-in-None : goal.returns-in-None
returns-in-None c =
    let s = c.args.source.now in
    let leads = opened (known_of s) c.args.brace c.args.node _ _ (left s c.open.new.stack.items) (place_of s c.loop.part) _ c.requires
    (sym c.takes.ensures ∙ c.if-takes.false) (sym c.is_lost.ensures ∙ c.if-is_lost.false) c.loop.invariant.leads c.in_ok-open.ensures in
    let next = subst (λ o. IsNext s (left s c.open.new.stack.items) o (left s c.next.new.stack.items)) c.in-None.is c.in_ok-inner.ensures in
    led_out (known_of s) c.args.brace c.args.node _ _ (left s c.next.new.stack.items) _ _ _ leads next c.loop.invariant.lines c.in_ok-exceed-in-None.ensures

pub loop-preserved : goal.loop-preserved
loop-preserved c =
    let s = c.args.source.now in
    let leads = opened (known_of s) c.args.brace c.args.node _ _ (left s c.open.new.stack.items) (place_of s c.loop.part) _ c.requires
    (sym c.takes.ensures ∙ c.if-takes.false) (sym c.is_lost.ensures ∙ c.if-is_lost.false) c.loop.invariant.leads c.in_ok-open.ensures in
    let next = subst (λ o. IsNext s (left s c.open.new.stack.items) o (left s c.next.new.stack.items)) c.in-Some.is c.in_ok-inner.ensures in
    record { lines = c.loop.invariant.lines; leads = led_on (known_of s) c.args.brace c.args.node _ _ _ _ leads next }

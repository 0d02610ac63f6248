use Rattle.std.proofs.Common.{◌≡◌, ◌∙◌, ap, sym, arith}
use Rattle.std.specs.Prelude.{◌+◌, ◌-◌, ◌==◌, ◌||◌}
use Rattle.std.specs.List.{list_any}
use Rattle.cr_meaning_loose.specs.Lists.{around_by}
use Rattle.cr_order_watch.proofs.Listing.{chain_goes, chain_ends, chain_over, other_number}
use Rattle.cr_order_watch.proofs.lists.stands_in.Goals as goal

pub loop-left-preserved : goal.loop-left-preserved
loop-left-preserved c =
    let some = c.loop-left-test.true in
    let step : c.loop-left.left ≡ (c.loop-left.left - 1) + 1 = omega (arith, some) in
    sym (ap (λ b. b || list_any (λ x. x == c.args.list) (around_by c.args.outer.now (c.loop-left.left - 1) c.in-Some.other)) (other_number c.in-Some.other c.args.list c.if-other-list.false))
    ∙ chain_goes c.args.outer.now c.loop-left.left (c.loop-left.left - 1) c.loop-left.at c.args.list c.in-Some.other _ step (sym c.in-Some.ensures) c.loop-left.invariant

pub returns-in-None : goal.returns-in-None
returns-in-None c = chain_ends c.args.outer.now c.loop-left.left c.loop-left.at c.args.list _ (sym c.in-None.ensures) c.loop-left.invariant

pub returns : goal.returns
returns c = let past = c.loop-left-test.false in chain_over c.args.outer.now c.loop-left.left c.loop-left.at c.args.list _ (omega (arith, past)) c.loop-left.invariant

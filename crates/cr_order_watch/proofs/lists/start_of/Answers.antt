use Rattle.std.proofs.Common.{◌≡◌, ◌∙◌, ap, sym, refl, arith}
use Rattle.std.specs.Prelude.{◌+◌, ◌-◌}
use Rattle.cr_meaning_loose.specs.Lists.{around, stands_in}
use Rattle.cr_order_watch.specs.Known.{stands_at}
use Rattle.cr_order_watch.proofs.Listing.{hold_end, hold_more, before_one, before_none}
use Rattle.cr_order_watch.proofs.lists.start_of.Goals as goal

pub loop-from-init : goal.loop-from-init
loop-from-init c = record { within = omega arith; hold = hold_end (stands_in (around c.args.outer.now) c.args.list) c.args.pieces.now _ refl }

pub loop-from-preserved : goal.loop-from-preserved
loop-from-preserved c =
    let some = c.loop-from-test.true in
    let few = c.loop-from.invariant.within in
    let step : c.loop-from.from ≡ (c.loop-from.from - 1) + 1 = omega (arith, some) in
    record {
      within = omega (arith, few);
      hold = hold_more (stands_in (around c.args.outer.now) c.args.list) c.args.pieces.now c.loop-from.from (c.loop-from.from - 1) c.loop-from.invariant.hold step
          (λ piece is. sym (c.stands_at.ensures ∙ ap (stands_at (around c.args.outer.now) c.args.list) is) ∙ c.if-not-stands_at.false);
    }

pub returns-then-not-stands_at-clause-before : goal.returns-then-not-stands_at-clause-before
returns-then-not-stands_at-clause-before c =
    let some = c.loop-from-test.true in
    let step : c.loop-from.from ≡ (c.loop-from.from - 1) + 1 = omega (arith, some) in
    before_one (stands_in (around c.args.outer.now) c.args.list) c.args.pieces.now c.loop-from.from (c.loop-from.from - 1) step c.loop-from.invariant.within
    (λ piece is. sym (c.stands_at.ensures ∙ ap (stands_at (around c.args.outer.now) c.args.list) is) ∙ c.if-not-stands_at.true)

pub returns-clause-hold : goal.returns-clause-hold
returns-clause-hold c = λ k piece few is. let past = c.loop-from-test.false in c.loop-from.invariant.hold k piece (omega (arith, past)) is

pub returns-clause-before : goal.returns-clause-before
returns-clause-before c = before_none (stands_in (around c.args.outer.now) c.args.list) c.args.pieces.now 0 refl

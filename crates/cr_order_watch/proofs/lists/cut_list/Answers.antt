use Rattle.std.proofs.Common.{◌≡◌, ap, sym, subst, arith}
use Rattle.std.specs.Prelude.{ℕ, ◌+◌, ◌-◌, None, true, not}
use Rattle.cr_meaning_seen.specs.Seen.{bare, node as tree}
use Rattle.cr_meaning_loose.specs.Lists.{around_by, around, IsListFine}
use Rattle.cr_order_watch.proofs.Listing.{Rest, rest_starts, rest_goes, rest_finds, rest_none, rest_over, rest_next, rest_stands, decided_true, decided_false}
use Rattle.cr_order_watch.proofs.lists.cut_list.Goals as goal

pub loop-left-init : goal.loop-left-init
loop-left-init c = λ p level levels number inner e it pieces same.
    let fine = IsListFine p (around c.args.outer.now) level.number level.done (tree number inner None bare) true in
    let F : ℕ → Type 0 = λ n. Rest fine (around c.args.outer.now n) (around c.args.outer.now number) in
    subst F (sym same) (rest_starts fine (around c.args.outer.now number))

pub returns-in_default : goal.returns-in_default
returns-in_default c = λ p level levels number inner e it pieces same.
    let fine = IsListFine p (around c.args.outer.now) level.number level.done (tree number inner None bare) true in
    rest_none fine c.args.outer.now c.loop-left.left c.loop-left.at (around c.args.outer.now number) (sym c.in_default.ensures) (c.loop-left.invariant p level levels number inner e it pieces same)

pub returns-then-is_shared : goal.returns-then-is_shared
returns-then-is_shared c = λ p level levels number inner e it pieces same.
    let fine = IsListFine p (around c.args.outer.now) level.number level.done (tree number inner None bare) true in
    let some = c.loop-left-test.true in
    let step : c.loop-left.left ≡ (c.loop-left.left - 1) + 1 = omega (arith, some) in
    let more = around_by c.args.outer.now (c.loop-left.left - 1) c.in-Some.list in
    let rest = rest_next fine c.args.outer.now c.loop-left.left (c.loop-left.left - 1) c.loop-left.at c.in-Some.list (around c.args.outer.now number) step (sym c.in-Some.ensures) (c.loop-left.invariant p level levels number inner e it pieces same) in
    rest_finds fine c.in-Some.list more (around c.args.outer.now number) rest
    (decided_false (fine c.in-Some.list) (not c.is_shared.result) (ap not c.if-is_shared.true) (c.is_shared.ensures p level levels number inner e it pieces (rest_stands fine c.in-Some.list more (around c.args.outer.now number) rest)))

pub loop-left-preserved : goal.loop-left-preserved
loop-left-preserved c = λ p level levels number inner e it pieces same.
    let fine = IsListFine p (around c.args.outer.now) level.number level.done (tree number inner None bare) true in
    let some = c.loop-left-test.true in
    let step : c.loop-left.left ≡ (c.loop-left.left - 1) + 1 = omega (arith, some) in
    let more = around_by c.args.outer.now (c.loop-left.left - 1) c.in-Some.list in
    let rest = rest_next fine c.args.outer.now c.loop-left.left (c.loop-left.left - 1) c.loop-left.at c.in-Some.list (around c.args.outer.now number) step (sym c.in-Some.ensures) (c.loop-left.invariant p level levels number inner e it pieces same) in
    rest_goes fine c.in-Some.list more (around c.args.outer.now number) rest
    (decided_true (fine c.in-Some.list) (not c.is_shared.result) (ap not c.if-is_shared.false) (c.is_shared.ensures p level levels number inner e it pieces (rest_stands fine c.in-Some.list more (around c.args.outer.now number) rest)))

pub returns : goal.returns
returns c = λ p level levels number inner e it pieces same.
    let fine = IsListFine p (around c.args.outer.now) level.number level.done (tree number inner None bare) true in
    let past = c.loop-left-test.false in
    rest_over fine c.args.outer.now c.loop-left.left c.loop-left.at (around c.args.outer.now number) (omega (arith, past)) (c.loop-left.invariant p level levels number inner e it pieces same)

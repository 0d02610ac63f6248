use Rattle.std.proofs.Common.{◌≡◌, sym, subst, arith}
use Rattle.std.specs.Prelude.{ℕ, ◌+◌, ◌-◌, Some, false}
use Rattle.cr_meaning_seen.specs.Seen.{bare, node as tree}
use Rattle.cr_meaning_loose.specs.Lists.{around_by, around, IsListFine}
use Rattle.cr_order_watch.proofs.Listing.{Rest, rest_starts, rest_goes, rest_finds, rest_none, rest_over, rest_next, decided_true, decided_false}
use Rattle.cr_order_watch.proofs.lists.first_loose.Goals as goal

pub loop-left-init : goal.loop-left-init
loop-left-init c = λ p level levels number inner events e it same.
    let fine = IsListFine p (around c.args.outer.now) level.number level.done (tree number inner (Some events) bare) false in
    let F : ℕ → Type 0 = λ n. Rest fine (around c.args.outer.now n) (around c.args.outer.now number) in
    subst F (sym same) (rest_starts fine (around c.args.outer.now number))

pub returns-in_default : goal.returns-in_default
returns-in_default c = λ p level levels number inner events e it same.
    let fine = IsListFine p (around c.args.outer.now) level.number level.done (tree number inner (Some events) bare) false in
    rest_none fine c.args.outer.now c.loop-left.left c.loop-left.at (around c.args.outer.now number) (sym c.in_default.ensures) (c.loop-left.invariant p level levels number inner events e it same)

pub returns-then-not-branch : goal.returns-then-not-branch
returns-then-not-branch c = λ p level levels number inner events e it same.
    let fine = IsListFine p (around c.args.outer.now) level.number level.done (tree number inner (Some events) bare) false in
    let some = c.loop-left-test.true in
    let step : c.loop-left.left ≡ (c.loop-left.left - 1) + 1 = omega (arith, some) in
    let rest = rest_next fine c.args.outer.now c.loop-left.left (c.loop-left.left - 1) c.loop-left.at c.in-Some.list (around c.args.outer.now number) step (sym c.in-Some.ensures) (c.loop-left.invariant p level levels number inner events e it same) in
    rest_finds fine c.in-Some.list (around_by c.args.outer.now (c.loop-left.left - 1) c.in-Some.list) (around c.args.outer.now number) rest
    (decided_false (fine c.in-Some.list) c.in_ok-is_fine.field-0 c.if-not-branch.true (c.in_ok-is_fine.ensures p level levels number inner events e it))

pub loop-left-preserved : goal.loop-left-preserved
loop-left-preserved c = λ p level levels number inner events e it same.
    let fine = IsListFine p (around c.args.outer.now) level.number level.done (tree number inner (Some events) bare) false in
    let some = c.loop-left-test.true in
    let step : c.loop-left.left ≡ (c.loop-left.left - 1) + 1 = omega (arith, some) in
    let rest = rest_next fine c.args.outer.now c.loop-left.left (c.loop-left.left - 1) c.loop-left.at c.in-Some.list (around c.args.outer.now number) step (sym c.in-Some.ensures) (c.loop-left.invariant p level levels number inner events e it same) in
    rest_goes fine c.in-Some.list (around_by c.args.outer.now (c.loop-left.left - 1) c.in-Some.list) (around c.args.outer.now number) rest
    (decided_true (fine c.in-Some.list) c.in_ok-is_fine.field-0 c.if-not-branch.false (c.in_ok-is_fine.ensures p level levels number inner events e it))

pub returns : goal.returns
returns c = λ p level levels number inner events e it same.
    let fine = IsListFine p (around c.args.outer.now) level.number level.done (tree number inner (Some events) bare) false in
    let past = c.loop-left-test.false in
    rest_over fine c.args.outer.now c.loop-left.left c.loop-left.at (around c.args.outer.now number) (omega (arith, past)) (c.loop-left.invariant p level levels number inner events e it same)

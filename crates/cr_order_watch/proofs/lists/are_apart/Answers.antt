use Rattle.std.proofs.Common.{◌≡◌, arith, subst}
use Rattle.std.specs.Prelude.{ℕ, suc, ◌+◌}
use Rattle.std.proofs.lemmas.Bool.{true≢false, false≢true}
use Rattle.cr_meaning_loose.specs.Lists.{count_of}
use Rattle.cr_order_watch.proofs.Gathering.{Gathered, taken, next_piece, gather_starts, gather_goes, gather_fails, gather_ends}
use Rattle.cr_order_watch.proofs.Listing.{got}
use Rattle.cr_order_watch.proofs.lists.are_apart.Goals as goal

pub loop-piece-init : goal.loop-piece-init
loop-piece-init c = λ p forest h. gather_starts p c.args.pieces.now _ _ forest (c.none-sum.ensures p)

pub returns-in-None : goal.returns-in-None
returns-in-None c = λ p forest h.
    let n = c.loop-piece.piece-index in
    let g = c.loop-piece.invariant p forest h in
    let i = next_piece p c.args.pieces.now forest n _ h (got c.args.pieces.now n _ c.loop-piece-test.true _ c.piece-item.is) in
    let f = c.in_ok-more.ensures p (count_of forest) (taken n forest) i.inner i.number i.events g.sum i.sum i.few g.fixed in
    ((λ e. absurd (false≢true e)), (λ e. gather_fails p n _ forest i (rw c.in-None.is at f).1))

pub loop-piece-preserved : goal.loop-piece-preserved
loop-piece-preserved c = λ p forest h.
    let n = c.loop-piece.piece-index in
    let g = c.loop-piece.invariant p forest h in
    let i = next_piece p c.args.pieces.now forest n _ h (got c.args.pieces.now n _ c.loop-piece-test.true _ c.piece-item.is) in
    let f = c.in_ok-more.ensures p (count_of forest) (taken n forest) i.inner i.number i.events g.sum i.sum i.few g.fixed in
    let one : suc n ≡ n + 1 = omega arith in
    let F : ℕ → Type 0 = λ k. Gathered p c.args.pieces.now k c.in-Some.more.loud c.in-Some.more.foot forest in
    subst F one (gather_goes p c.args.pieces.now n _ c.in-Some.more.loud c.in-Some.more.foot forest i (rw c.in-Some.is at f).0)

pub returns : goal.returns
returns c = λ p forest h.
    let past = c.loop-piece-test.false in
    ((λ e. gather_ends p c.args.pieces.now c.loop-piece.piece-index _ _ forest h (omega (arith, past)) (c.loop-piece.invariant p forest h)), (λ e. absurd (true≢false e)))

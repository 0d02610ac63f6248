use Rattle.std.proofs.Common.{◌≡◌, ◌≢◌, ◌∙◌, ℕ, List, [], ◌∷◌, length, slice_index_or, ap, subst, sym, arith}
use Rattle.cr_claims.specs.Pass.{view_of}
use Rattle.cr_core.specs.Row.{Row}
use Rattle.cr_core.specs.Sound.{total}
use Rattle.cr_pool.specs.Crew.{IsSameButPass, row_of}
use Rattle.cr_pool.proofs.Sums.{index_any, set_above, set_each, total-take}
use Rattle.cr_pool.proofs.crew.gather.Goals as goal

pub loop-worker-preserved : goal.loop-worker-preserved
loop-worker-preserved g c =
    let inv = c.loop-worker.invariant in
    let i = c.loop-worker.worker-index in
    let other = c.worker-item.result in
    let worker = slice_index_or c.loop-worker.workers i other in
    let first = c.args.workers.now in
    let view = c.take_in.ensures.view in
    let joined : (view_of c.take_in.new.keeper).joined ≡ row_of worker.pass ∷ (view_of c.loop-worker.keeper).joined = view.joined in
    let some : row_of worker.pass ≢ [] = c.take_in.ensures.some in
    let same : IsSameButPass worker c.take_in.new.worker = record { judge = c.take_in.ensures.same.judge; hit = c.take_in.ensures.same.hit; variant = c.take_in.ensures.same.variant; notes = c.take_in.ensures.same.notes } in
    let below = c.loop-worker-test.true in
    let is : worker ≡ slice_index_or first i other = inv.rest i other below (omega arith) in
    record {
      stays = c.take_in.ensures.stays;
      keeps = record {
        keeper = view.keeper ∙ inv.keeps.keeper;
        splits_are = view.splits ∙ inv.keeps.splits_are;
        joins_are = omega (arith, ap {B = ℕ} (λ (rows : List Row). length rows) joined, inv.keeps.joins_are);
        nothing_of_its_own = view.own ∙ inv.keeps.nothing_of_its_own;
      };
      counts = λ f.
          let sum = ap (λ (rows : List Row). total f rows) joined in
          let own = ap f view.own in
          let row = ap (λ w. f (row_of w.pass)) is in
          omega (arith, sum, own, row, inv.counts f, total-take f (λ w. row_of w.pass) first i other below);
      one = λ _ none. some (sym (ap (λ (rows : List Row). slice_index_or rows 0 []) joined) ∙ none);
      same = λ k d there.
          set_each IsSameButPass first c.loop-worker.workers i c.take_in.new.worker d c.loop-worker.auto.workers (λ j within. inv.same j d within)
          (subst (λ w. IsSameButPass w c.take_in.new.worker) (is ∙ index_any first i other d below) same) k there;
      rest = λ k d there up. set_above c.loop-worker.workers i k c.take_in.new.worker d (omega arith) ∙ inv.rest k d there (omega arith);
    }

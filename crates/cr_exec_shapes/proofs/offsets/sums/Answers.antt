use Rattle.std.proofs.Common.{◌≡◌, ◌∙◌, ◌∷◌, [], ap, sym, subst, arith, length, length-append, take, slice_index_or, sum_by}
use Rattle.std.proofs.lemmas.List.Sums.{sum_by_more}
use Rattle.cr_typed.specs.Typed.{row_cells, MOST_CELLS}
use Rattle.cr_exec_shapes.proofs.Rows.{grown, sum_fits}
use Rattle.cr_exec_shapes.proofs.offsets.sums.Goals as goal

pub overflow_add-cells : goal.overflow_add-cells
overflow_add-cells c =
    let under = c.loop-at-test.true in
    let fits = sum_fits (row_cells c.args.typed.now) c.args.members.now c.loop-at.at c.loop-at.cells c.cells_in-cells.result MOST_CELLS
    (omega (arith, under)) c.loop-at.invariant.cells c.cells_in-cells.ensures c.requires.fit in
    omega (arith, fits)

pub loop-at-preserved : goal.loop-at-preserved
loop-at-preserved c =
    let t = c.args.typed.now in
    let members = c.args.members.now in
    let under = c.loop-at-test.true in
    let count = c.loop-at.invariant.count in
    let pushed = c.in_ok-push.ensures.ok in
    let one = length-append c.loop-at.sums (c.loop-at.cells ∷ []) in
    let more = sum_by_more (row_cells t) members c.loop-at.at 0 (omega (arith, under)) in
    let before = c.loop-at.invariant.cells in
    let cell = c.cells_in-cells.ensures in
    record {
      count = ap length pushed ∙ omega (arith, one, count);
      each = λ k lt. subst (λ xs. slice_index_or xs k 0 ≡ sum_by (row_cells t) (take k members)) (sym pushed)
          (grown (λ index. sum_by (row_cells t) (take index members)) c.loop-at.sums c.loop-at.at 0 c.loop-at.cells
          count c.loop-at.invariant.each before k lt);
      cells = omega (arith, more, before, cell);
    }

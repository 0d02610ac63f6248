use Rattle.std.proofs.Common.{arith, ◌∙◌}
use Rattle.cr_typed_columns.specs.Expressions.{fills_array}
use Rattle.cr_typed_columns.proofs.Marks.{marked_more}
use Rattle.cr_typed_columns.proofs.expressions.mark_all.Goals as goal

pub loop-line-preserved : goal.loop-line-preserved
loop-line-preserved c = record {
  count = c.mark.ensures.count ∙ c.loop-line.invariant.count;
  each = λ i low.
      let n = c.loop-line.invariant.count in
      marked_more _ _ _ (fills_array c.args.table.now i) c.args.lines.now c.loop-line.line-index _ c.loop-line-test.true
      (c.loop-line.invariant.each i low) (c.mark.ensures.each i (omega (arith, n, low)));
}

use Rattle.std.proofs.Common.{arith, ◌||◌, Bool, false, List, slice_index_or, ap, ◌∙◌}
use Rattle.std.specs.List.{list_any}
use Rattle.cr_check_initialisers.specs.declared.lines.Line.{Line}
use Rattle.cr_typed_columns.specs.Expressions.{fills_array}
use Rattle.cr_typed_columns.proofs.Marks.{filled_more}
use Rattle.cr_typed_columns.proofs.expressions.filling.Goals as goal

pub loop-lines-preserved : goal.loop-lines-preserved
loop-lines-preserved c = record {
  count = c.mark_all.ensures.count ∙ c.loop-lines.invariant.count;
  each = λ i low.
      let n = c.loop-lines.invariant.count in
      let fills : List Line → Bool = λ lines. list_any (fills_array c.args.checked.now.table.now i) lines in
      let marked =
      c.mark_all.ensures.each i (omega (arith, n, low))
      ∙ ap (λ lines. slice_index_or c.loop-lines.marks.items i false || fills lines) (c.as_slice.ensures ∙ c.lines-item.is) in
      filled_more _ _ fills c.args.checked.now.lines.now c.loop-lines.lines-index c.lines-item.result c.loop-lines-test.true (c.loop-lines.invariant.each i low) marked;
}

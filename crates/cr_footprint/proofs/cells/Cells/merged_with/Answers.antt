use Rattle.std.proofs.Common.{List, subst, sym, ap, ◌∙◌}
use Rattle.cr_footprint.specs.Cell.{Cell, holds, IsRising}
use Rattle.cr_footprint.proofs.Merging.{merged-holds, merged-rising, merged_as}
use Rattle.cr_footprint.proofs.cells.Cells.merged_with.Goals as goal

pub invariant_of-result : goal.invariant_of-result
invariant_of-result c = record {
  rising =
      (let P : List Cell → Type 0 = IsRising in
      subst P (sym (c.in_ok-list.ensures ∙ merged_as _ _ _ _ _ c.in_ok-cells.ensures c.as_slice.ensures c.as_slice-2.ensures))
      (merged-rising c.args.self.now.list c.args.other.now.list c.args.self.now.rising c.args.other.now.rising));
}

pub returns : goal.returns
returns c d =
    ap (λ l. holds l d) (c.in_ok-list.ensures ∙ merged_as _ _ _ _ _ c.in_ok-cells.ensures c.as_slice.ensures c.as_slice-2.ensures)
    ∙ merged-holds c.args.self.now.list c.args.other.now.list d

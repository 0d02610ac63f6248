use Rattle.std.proofs.Common.{List, ap, subst, sym, ◌∙◌}
use Rattle.cr_footprint.specs.Cell.{Cell, holds, IsRising}
use Rattle.cr_footprint.proofs.cells.Cells.of_span.Goals as goal

pub invariant_of-result : goal.invariant_of-result
invariant_of-result c = record {
  rising = (let P : List Cell → Type 0 = IsRising in subst P (sym c.in_ok-list.ensures) c.in_ok-all.ensures.0);
}

pub returns : goal.returns
returns c d = ap (λ l. holds l d) c.in_ok-list.ensures ∙ c.in_ok-all.ensures.1 d

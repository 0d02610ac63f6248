use Rattle.std.proofs.Common.{List, subst, sym}
use Rattle.cr_footprint.specs.Cell.{Cell, IsRising}
use Rattle.cr_footprint.proofs.Rising.{IsRising-one}
use Rattle.cr_footprint.proofs.cells.Cells.one.Goals as goal

pub invariant_of-result : goal.invariant_of-result
invariant_of-result c = record {
  rising = (let P : List Cell → Type 0 = IsRising in subst P (sym c.one.ensures) (IsRising-one c.args.cell));
}

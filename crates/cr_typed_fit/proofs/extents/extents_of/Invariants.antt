use Rattle.cr_typed_fit.specs.Fits.{AreExtents}
use Rattle.cr_typed_fit.proofs.extents.extents_of.Given as goal

abbrev pub invariant-loop-at : goal.invariant-loop-at
invariant-loop-at l = AreExtents l.table l.layouts l.at l.extents.items

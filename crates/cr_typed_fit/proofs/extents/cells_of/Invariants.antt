use Rattle.std.proofs.Common.{◌≡◌, take}
use Rattle.std.specs.List.{sum_by}
use Rattle.cr_check_types.specs.Layouts.{fitted}
use Rattle.cr_typed_fit.specs.Fits.{cells_in}
use Rattle.cr_typed_fit.proofs.extents.cells_of.Given as goal

abbrev pub invariant-loop-row : goal.invariant-loop-row
invariant-loop-row l = record { sum : l.sum ≡ fitted (sum_by (cells_in l.extents) (take l.row-index l.rows)) }

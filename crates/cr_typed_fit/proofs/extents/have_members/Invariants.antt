use Rattle.std.proofs.Common.{◌≡◌, ℕ, ◌<◌, Some, List, slice_get}
use Rattle.cr_typed_fit.specs.Fits.{AreSuited}
use Rattle.cr_typed_fit.proofs.extents.have_members.Given as goal

abbrev pub invariant-loop-at : goal.invariant-loop-at
invariant-loop-at l = (node : ℕ) (rows : List ℕ) → node < l.at → slice_get l.members node ≡ Some rows → AreSuited l.extents node rows

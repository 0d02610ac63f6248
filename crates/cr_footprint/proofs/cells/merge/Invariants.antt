use Rattle.std.proofs.Common.{◌≡◌, ◌+◌, ◌++◌, length}
use Rattle.cr_footprint.specs.Merge.{merged}
use Rattle.cr_footprint.proofs.cells.merge.Given as goal

abbrev pub invariant-loop-left : goal.invariant-loop-left
invariant-loop-left l = l.all.items ++ merged l.left l.right ≡ merged l.fn.first l.fn.second

abbrev pub decreases-loop-left : goal.decreases-loop-left
decreases-loop-left l = length l.left + length l.right

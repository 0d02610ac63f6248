use Rattle.std.proofs.Common.{◌≡◌, length}
use Rattle.std.specs.List.{list_any}
use Rattle.cr_footprint.specs.Cell.{holds}
use Rattle.cr_exec_calls.proofs.clashes.has_some.Given as goal

abbrev pub invariant-loop-cell : goal.invariant-loop-cell
invariant-loop-cell l = list_any (holds l.rising) l.rest ≡ list_any (holds l.fn.rising) l.cells

abbrev pub decreases-loop-cell : goal.decreases-loop-cell
decreases-loop-cell l = length l.rest

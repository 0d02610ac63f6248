use Rattle.std.proofs.Common.{◌+◌, ◌*◌, drop}
use Rattle.cr_check_initialisers.specs.Known.{known_of}
use Rattle.cr_check_initialisers.specs.Plans.{entries_of}
use Rattle.cr_check_initialisers.specs.Steps.{left, Completes}
use Rattle.cr_check_initialisers.proofs.walk.+walk.Given as goal

abbrev pub decreases-braced : goal.decreases-braced
decreases-braced l = 3 * l.node + 2

abbrev pub decreases-fill : goal.decreases-fill
decreases-fill l = 3 * l.brace + 1

abbrev pub decreases-place : goal.decreases-place
decreases-place l = 3 * l.brace

abbrev pub invariant-fill-loop-node : goal.invariant-fill-loop-node
invariant-fill-loop-node l = Completes (known_of l.source) l.brace (left l.source l.fn.stack.items) (left l.source l.stack.items) l.list (drop l.node-index l.list) (entries_of l.source.table.now l.fn.lines.items) (entries_of l.source.table.now l.lines.items)

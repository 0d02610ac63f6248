use Rattle.std.proofs.Common.{◌≤◌, length}
use Rattle.cr_meaning_loose.specs.Lists.{around, stands_in}
use Rattle.cr_order_watch.specs.Known.{Hold}
use Rattle.cr_order_watch.proofs.lists.start_of.Given as goal

abbrev pub invariant-loop-from : goal.invariant-loop-from
invariant-loop-from l = record { within : l.from ≤ length l.pieces; hold : Hold (stands_in (around l.outer) l.list) l.pieces l.from }

abbrev pub decreases-loop-from : goal.decreases-loop-from
decreases-loop-from l = l.from

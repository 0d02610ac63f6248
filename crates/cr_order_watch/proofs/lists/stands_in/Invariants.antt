use Rattle.std.proofs.Common.{◌≡◌}
use Rattle.std.specs.Prelude.{◌==◌}
use Rattle.std.specs.List.{list_any}
use Rattle.cr_meaning_loose.specs.Lists.{around_by, around, stands_in}
use Rattle.cr_order_watch.proofs.lists.stands_in.Given as goal

abbrev pub invariant-loop-left : goal.invariant-loop-left
invariant-loop-left l = list_any (λ x. x == l.list) (around_by l.outer l.left l.at) ≡ stands_in (around l.outer) l.list l.fn.node

abbrev pub decreases-loop-left : goal.decreases-loop-left
decreases-loop-left l = l.left

use Rattle.std.proofs.Common.{◌≡◌}
use Rattle.std.specs.Prelude.{ℕ, None, true}
use Rattle.cr_meaning.specs.World.{Program}
use Rattle.cr_meaning_seen.specs.Seen.{Forest, bare, node as tree}
use Rattle.cr_meaning_loose.specs.Levels.{Level}
use Rattle.cr_meaning_loose.specs.Lists.{around_by, around, IsListFine}
use Rattle.cr_eval.specs.Table.{program_of}
use Rattle.cr_order_watch.specs.Known.{IsOpen, HasPieces}
use Rattle.std.specs.Prelude.{List}
use Rattle.cr_order_watch.proofs.Listing.{Rest}
use Rattle.cr_order_watch.proofs.lists.cut_list.Given as goal

abbrev pub invariant-loop-left : goal.invariant-loop-left
invariant-loop-left l = (p : Program) (level : Level) (levels : List Level) (number : ℕ) (inner : Forest) → program_of l.table ≡ p → IsOpen p l.owner level levels → HasPieces p (around l.outer) l.owner level → l.fn.node ≡ number
    → Rest (IsListFine p (around l.outer) level.number level.done (tree number inner None bare) true) (around_by l.outer l.left l.at) (around l.outer number)

abbrev pub decreases-loop-left : goal.decreases-loop-left
decreases-loop-left l = l.left

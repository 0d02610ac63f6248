use Rattle.std.proofs.Common.{◌≡◌}
use Rattle.std.specs.Prelude.{List, length}
use Rattle.cr_eval.specs.Table.{program_of}
use Rattle.cr_meaning.specs.World.{Program}
use Rattle.cr_meaning_loose.specs.Lists.{around}
use Rattle.cr_meaning_loose.specs.Levels.{Level, AreAllFixed}
use Rattle.cr_order_watch.specs.Known.{AreOpen}
use Rattle.cr_order_watch.proofs.Stacking.{Cutting}
use Rattle.cr_order_watch.proofs.levels.first_cut.Given as goal

abbrev pub invariant-loop-top : goal.invariant-loop-top
invariant-loop-top l = (p : Program) (levels : List Level) → program_of l.table ≡ p → AreAllFixed p (around l.outer) levels → AreOpen p (around l.outer) l.fn.nodes levels
    → Cutting p (around l.outer) levels l.nodes l.within

abbrev pub decreases-loop-top : goal.decreases-loop-top
decreases-loop-top l = length l.nodes

-- What is found of a program's run.
use Rattle.std.specs.Prelude.{◌≡◌, ℕ, Option, Some, List, length}
use Rattle.cr_meaning.specs.Language.{Reply}
use Rattle.cr_meaning.specs.World.{Program, World, Answer, Halt}
use Rattle.cr_meaning.specs.Meaning.{start_of, run_of}
use Rattle.cr_meaning.specs.declared.run.Run.{Run}
use Rattle.cr_eval.specs.Table.{program_of}
use Rattle.cr_meaning_seen.specs.Seen.{Forest, Sees}
use Rattle.cr_meaning_seen.specs.Marks.{Mark}
use Rattle.cr_meaning_loose.specs.Levels.{levels_of}
use Rattle.cr_meaning_loose.specs.Lists.{Lists, around}
use Rattle.cr_order_watch.specs.Known.{Knows}
use Rattle.cr_order_watch.specs.declared.watch.OrderWatch.{OrderWatch}
use Rattle.cr_meaning_orders.specs.AnyOrder.{whole_of}
use Rattle.cr_meaning_loose.specs.Loose.{Judged}

-- the program's run from left to right comes to this, and of what is seen of it this node or list is the first whose operands see one another, or
-- none is
pub record IsJudged (p : Program) (lists : Lists) (outcome : Run) (loose : Option ℕ) : Type 0 where
  pub reply : Reply Answer World Halt
  pub forest : Forest
  pub seen : Sees p (whole_of p) (start_of p.limits) reply forest
  pub comes : run_of p.limits reply ≡ Some outcome
  pub judged : Judged p lists forest loose

-- what the watch knows of the marks so far, of the program of its table
abbrev pub KnowsRun : OrderWatch → Program → List Mark → Type 0
KnowsRun watch p marks = (program_of watch.table.now ≡ p) × Knows p (around watch.outer.now) watch.loose watch.nodes (levels_of (length p.ops) marks)

use Rattle.std.specs.Prelude.{◌∷◌}
use Rattle.cr_meaning_loose.specs.Lists.{around}
use Rattle.cr_order_watch.proofs.Opening.{asked_still}
use Rattle.cr_order_watch.proofs.Listing.{behind_pieces, behind_fine}
use Rattle.cr_order_watch.proofs.opened.handed.Goals as goal

pub returns-then-below : goal.returns-then-below
returns-then-below c = λ p level other levels events e top below pieces fixed asked foot.
    let sum = c.in-Ok.ensures p level (other ∷ levels) events e top fixed asked foot in
    c.operand.ensures p other levels level.number level.done events e below pieces sum.0 sum.1

pub returns-in-Ok-behind : goal.returns-in-Ok-behind
returns-in-Ok-behind c = λ p level other levels events e top below pieces fixed asked foot.
    let sum = c.in-Ok.ensures p level (other ∷ levels) events e top fixed asked foot in
    let it = c.in-Ok-behind.ensures p other levels level.number level.done events below c.if-below.false (asked_still p c.args.top c.args.below level other levels top below asked c.if-below.false) sum.1 in
    ((it, behind_pieces p (around c.args.outer.now) c.args.below c.in-Ok-behind.below other levels level.number level.done events below it c.if-below.false), behind_fine p (around c.args.outer.now) c.args.below other levels level.number level.done events below c.if-below.false)

use Rattle.std.specs.Prelude.{Some}
use Rattle.cr_meaning_loose.specs.Lists.{around}
use Rattle.cr_order_watch.proofs.Listing.{cut_behind}
use Rattle.cr_order_watch.proofs.levels.cut_around.Goals as goal

pub returns-else-top : goal.returns-else-top
returns-else-top c = λ p level below e it pieces. cut_behind p (around c.args.outer.now) c.args.top.now level (Some c.args.node) c.loose_one.result c.if-top.false c.loose_one.ensures.some c.loose_one.ensures.none
